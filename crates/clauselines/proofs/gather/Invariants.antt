-- `clauselines::gather` keeps `Gathering`: what was found so far, together with what the lines from `at` on say, is what all lines say; the columns are filled up to `count`. Assumes nothing.
use Prim.Native.Nat.{◌-◌}
use lib.ListN.{length}
use Rattle.lists.specs.Bytes.{EndsAt}
use Rattle.clauselines.proofs.Gathering.{Gathering}
use Rattle.clauselines.proofs.gather.Given as goal

abbrev pub invariant-loop-e : goal.invariant-loop-e
invariant-loop-e l =
    Gathering l.text l.from l.n l.dated l.at l.count l.broken l.zeros l.reversed l.heads l.bodies l.nafs l.firsts l.lasts × EndsAt l.text 10 l.at l.e

abbrev pub decreases-loop-e : goal.decreases-loop-e
decreases-loop-e l =
    length l.text - l.at
