-- What is left of the run from the word `from` on, with what is listed so far, is the whole run; one law for each way to end a turn. Assumes nothing.
use Prim.Native.Nat.{◌-◌, ◌^◌}
use Rattle.sets.specs.Lists.{tabulate}
use Rattle.tree.specs.NodeTest.{dead}
use Rattle.leaf.specs.Packed.{packed_at}
use Rattle.search_models.proofs.Turns.{Searching}
use Rattle.search_models.proofs.search_clauses.Given as goal

abbrev pub invariant-loop-count : goal.invariant-loop-count
invariant-loop-count l =
    Searching (dead (tabulate (packed_at l.table) l.count)) (tabulate (packed_at l.table) l.count) l.node_limit l.n l.initial.models l.from l.written l.visited l.models

abbrev pub decreases-loop-count : goal.decreases-loop-count
decreases-loop-count l = 2 ^ 24 - l.from
