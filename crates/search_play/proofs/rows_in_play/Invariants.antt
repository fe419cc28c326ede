-- `search_play::rows_in_play` meets its contract: below i the rows in play are gathered. Assumes nothing.
use Rattle.sets.proofs.Gathering.{Gathering}
use Rattle.columns.specs.Play.{in_play}
use Rattle.leaf.specs.Packed.{packed_at}
use Rattle.search_play.proofs.rows_in_play.Given as goal

abbrev pub invariant-loop-i : goal.invariant-loop-i
invariant-loop-i l = Gathering (λ k. in_play l.reach l.w (packed_at l.table k)) l.count l.i l.rows
