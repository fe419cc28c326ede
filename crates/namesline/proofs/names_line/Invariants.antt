-- `namesline::names_line` keeps `Naming`: the count and the two tests so far, together with those of the items from `at` on, are those of the whole line. Assumes nothing.
use Prim.Native.Nat.{◌+◌, ◌-◌}
use lib.ListN.{length}
use Rattle.namesline.proofs.Items.{Naming}
use Rattle.namesline.proofs.names_line.Given as goal

abbrev pub invariant-loop-at : goal.invariant-loop-at
invariant-loop-at l = Naming l.line l.at l.count l.named l.apart

abbrev pub decreases-loop-at : goal.decreases-loop-at
decreases-loop-at l = length l.line + 1 - l.at
