-- `search_support::some_unsupported` meets its contract: no literal that is passed lacks support, the loop law of a set's members. Assumes nothing.
use Rattle.leaf.specs.Packed.{packed_at}
use Rattle.node.proofs.Asking.{Lacking}
use Rattle.search_support.proofs.some_unsupported.Given as goal

abbrev pub invariant-loop-literal : goal.invariant-loop-literal
invariant-loop-literal l = Lacking (packed_at l.table) l.count l.k l.w l.play l.literal-iterator.rest l.rows
