-- `valid_names::repeated` meets its contract: none of the places between i and j is the same, the loop law of a layout. Assumes nothing.
use Prim.Native.Nat.{◌+◌}
use Rattle.sets.proofs.Lists.{Lacks}
use Rattle.lists.specs.Bytes.{same}
use Rattle.program.specs.Names.{place}
use Rattle.valid_names.proofs.repeated.Given as goal

abbrev pub invariant-loop-j : goal.invariant-loop-j
invariant-loop-j l = Lacks (place l.names) l.n (same (place l.names l.i)) (l.i + 1) l.j
