-- The loop keeps that (d) of the head literals that the iterator has left is still to come. Assumes nothing.
use Rattle.fix_push.specs.Parts.{each_d}
use Rattle.fix_push.proofs.Walk.{Walk}
use Rattle.standins.proofs.emit_d.Given as goal

abbrev pub invariant-loop-t : goal.invariant-loop-t
invariant-loop-t l = Walk (each_d l.head l.s) l.head l.s l.initial.hs l.initial.bs l.at l.t-iterator.rest l.p l.hs l.bs l.n
