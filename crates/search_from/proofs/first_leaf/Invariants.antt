-- `search_from::first_leaf` meets its contract: `seek` at the root, or the trees beside the way to the leaf before `from`, from the lowest up. Assumes nothing.
use Rattle.sets.specs.Lists.{tabulate}
use Rattle.leaf.specs.Packed.{packed_at}
use Rattle.seek.proofs.Climbing.{Climbing}
use Rattle.search_from.proofs.first_leaf.Given as goal

abbrev pub invariant-loop-k : goal.invariant-loop-k
invariant-loop-k l =
    Climbing (tabulate (packed_at l.table) l.count) l.node_limit l.n l.from l.initial.visited l.k l.next l.visited
