-- `fix_minimal::keep_minimal` meets its contract: what is kept is what passes of the words so far, with which alone the next word is compared. Assumes nothing.
use Rattle.minimal.specs.Minimal.{least_in}
use Rattle.minimal.proofs.Selecting.{Sifting}
use Rattle.fix_minimal.proofs.keep_minimal.Given as goal

abbrev pub invariant-loop-w : goal.invariant-loop-w
invariant-loop-w l = Sifting (least_in l.list) l.list l.initial.kept l.kept l.n l.w-index
