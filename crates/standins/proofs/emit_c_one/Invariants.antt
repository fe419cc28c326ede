-- The loop keeps that (c) of the stand-in and the not-literals that the iterator has left is still to come. Assumes nothing.
use Rattle.fix_push.specs.Parts.{one_c}
use Rattle.fix_push.proofs.Walk.{Walk}
use Rattle.standins.proofs.emit_c_one.Given as goal

abbrev pub invariant-loop-t : goal.invariant-loop-t
invariant-loop-t l = Walk (one_c l.a) l.naf 0 l.initial.hs l.initial.bs l.at l.t-iterator.rest 0 l.hs l.bs l.n
