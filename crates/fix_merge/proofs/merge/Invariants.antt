-- `fix_merge::merge` meets its contract: what stands behind the first `p` and the `q` set aside is in order. Assumes nothing.
use Prim.Native.Nat.{◌+◌}
use Rattle.rising.proofs.Merging.{Merging}
use Rattle.fix_merge.proofs.merge.Given as goal

abbrev pub invariant-loop-q : goal.invariant-loop-q
invariant-loop-q l = Merging l.initial.set (l.m + l.k) l.tail l.set l.p l.q

abbrev pub decreases-loop-q : goal.decreases-loop-q
decreases-loop-q l = l.p + l.q
