-- `check_violated::first_violated` meets its contract: the loop has looked at every clause below k, and none is violated. Assumes nothing.
use Rattle.sets.proofs.Least.{Searched}
use Rattle.program.specs.Clauses.{clause_at}
use Rattle.semantics.specs.Interpretations.{violated_at}
use Rattle.sets.specs.Lists.{tabulate}
use Rattle.check_violated.proofs.first_violated.Given as goal

abbrev pub invariant-loop-k : goal.invariant-loop-k
invariant-loop-k l = Searched (violated_at (tabulate (clause_at l.heads l.bodies l.nafs) l.count) l.by l.w) l.count l.k
