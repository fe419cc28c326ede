-- The loop keeps that (b) of the literals that the iterator has left, whose stand-ins stand from `p` on, is still to come. Assumes nothing.
use Rattle.fix_push.specs.Parts.{one_b}
use Rattle.fix_push.proofs.Walk.{Walk}
use Rattle.standins.proofs.emit_b.Given as goal

abbrev pub invariant-loop-t : goal.invariant-loop-t
invariant-loop-t l = Walk one_b l.head l.s l.initial.hs l.initial.bs l.at l.t-iterator.rest l.p l.hs l.bs l.n
