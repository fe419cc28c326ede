use borrow.Author.Rules.{rules}
use Rattle.sets.proofs.Gathering.{gather_start, gather_out, gather_in}
use Rattle.sets.proofs.Tests.{via}
use Rattle.columns.specs.Play.{in_play}
use Rattle.node.proofs.Asking.{play_gathered}
use Rattle.search_play.proofs.rows_in_play.Goals.{then-is_in_play, else-is_in_play}
use Rattle.search_play.proofs.rows_in_play.Goals as goal

pub loop-i-init : goal.loop-i-init
loop-i-init c = search gather_start

pub loop-i-preserved : goal.loop-i-preserved
unfolding in_play
loop-i-preserved c = elim c.if-is_in_play.branch [
  | then-is_in_play w ↦ rw w.rows-is (search (gather_in, via, rules))
  | else-is_in_play w ↦ rw w.rows-is (search (gather_out, via, rules))
]

pub returns : goal.returns
returns c = search play_gathered
