-- `hold_place::equal_stands` meets its contract: no row below k is equal, the loop law of a layout. Assumes nothing.
use Rattle.sets.proofs.Lists.{Lacks}
use Rattle.program.specs.Clauses.{row_at, is_equal_row}
use Rattle.program.specs.Held.{held_row}
use Rattle.hold_place.proofs.equal_stands.Given as goal

abbrev pub invariant-loop-k : goal.invariant-loop-k
invariant-loop-k l = Lacks (row_at l.p) l.p.clause_count (is_equal_row (held_row l.held)) 0 l.k
