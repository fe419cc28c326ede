-- `search_support::some_supports` meets its contract: no row that is passed supports, the loop law of a set's members. Assumes nothing.
use Rattle.literals.proofs.Stepping.{Stepping}
use Rattle.leaf.specs.Packed.{packed_at}
use Rattle.node.specs.Node.{supports_alone}
use Rattle.search_support.proofs.some_supports.Given as goal

abbrev pub invariant-loop-row : goal.invariant-loop-row
invariant-loop-row l = Stepping (λ i. supports_alone l.w l.bit (packed_at l.table i)) l.rows l.row-iterator.rest
