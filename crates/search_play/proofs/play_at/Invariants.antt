-- `search_play::play_at` meets its contract: from literal to literal down the way, the rows of its body or of its naf leave the play. Assumes nothing.
use Rattle.seek.proofs.Ways.{Going}
use Rattle.search_play.proofs.play_at.Given as goal

abbrev pub invariant-loop-literal : goal.invariant-loop-literal
invariant-loop-literal l = Going l.columns l.root l.top l.k l.w l.play l.literal
