-- `valid_clauses::clauses_hold` meets its contract: all clauses below k pass, the loop law of a layout. Assumes nothing.
use Rattle.sets.proofs.Lists.{Kept}
use Rattle.program.specs.Clauses.{clause_at}
use Rattle.program.specs.Valid.{is_clause}
use Rattle.valid_clauses.proofs.clauses_hold.Given as goal

abbrev pub invariant-loop-k : goal.invariant-loop-k
invariant-loop-k l = Kept (clause_at l.heads l.bodies l.nafs) l.count (is_clause l.n) l.k
