-- `search_rows::some_rules_out` meets its contract: no row that is passed rules the words out, the loop law of a set's members. Assumes nothing.
use Rattle.literals.proofs.Stepping.{Stepping}
use Rattle.leaf.specs.Packed.{packed_at}
use Rattle.leaf.specs.Leaf.{rules_out}
use Rattle.search_rows.proofs.some_rules_out.Given as goal

abbrev pub invariant-loop-row : goal.invariant-loop-row
invariant-loop-row l = Stepping (λ i. rules_out l.by l.w l.reach (packed_at l.table i)) l.rows l.row-iterator.rest
