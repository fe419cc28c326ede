-- The loop keeps that (c) of the stand-ins from `p` on is still to come. Assumes nothing.
use Rattle.fix_push.specs.Parts.{each_c}
use Rattle.fix_push.proofs.Walk.{Walk}
use Rattle.standins.proofs.emit_c.Given as goal

abbrev pub invariant-loop : goal.invariant-loop
invariant-loop l = Walk (each_c l.naf) l.head l.s l.initial.hs l.initial.bs l.at l.iterator'.rest l.p l.hs l.bs l.n
