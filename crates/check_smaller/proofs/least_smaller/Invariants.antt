-- `check_smaller::least_smaller` meets its contract: the walk has looked at every subset below j, and j is one. Assumes nothing.
use Rattle.std.proofs.Common.{◌-◌}
use Rattle.sets.specs.Words.{Inside}
use Rattle.sets.proofs.Least.{Searched}
use Rattle.program.specs.Clauses.{clause_at}
use Rattle.semantics.specs.Interpretations.{reduct, smaller}
use Rattle.sets.specs.Lists.{tabulate}
use Rattle.check_smaller.proofs.least_smaller.Given as goal

abbrev pub invariant-loop-j : goal.invariant-loop-j
invariant-loop-j l = Searched (smaller (reduct (tabulate (clause_at l.heads l.bodies l.nafs) l.count) l.candidate) l.candidate) l.candidate l.j × Inside l.j l.candidate

abbrev pub decreases-loop-j : goal.decreases-loop-j
decreases-loop-j l = l.candidate - l.j
