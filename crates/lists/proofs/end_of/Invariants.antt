-- `lists::end_of` meets its contract: no byte between `at` and i is the one that is sought. Assumes nothing.
use Rattle.lists.proofs.Loops.{Sought}
use Rattle.lists.proofs.end_of.Given as goal

abbrev pub invariant-loop-i : goal.invariant-loop-i
invariant-loop-i l = Sought l.s l.c l.at l.i
