-- `check_violated::first_violated_row` meets its contract: the loop has looked at every row below `row`, and none of the set is violated. Assumes nothing.
use Rattle.sets.specs.Words.{bit}
use Rattle.sets.proofs.Least.{Searched}
use Rattle.program.specs.Clauses.{clause_at}
use Rattle.stable.specs.Check.{violated_in}
use Rattle.check_violated.proofs.first_violated_row.Given as goal

abbrev pub invariant-loop-row : goal.invariant-loop-row
invariant-loop-row l = Searched (violated_in (bit l.rows) (clause_at l.heads l.bodies l.nafs) l.w) l.count l.row
