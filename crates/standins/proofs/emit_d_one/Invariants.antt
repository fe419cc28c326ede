-- The loop keeps that (d) of one head literal with the stand-ins from `q` on is still to come. Assumes nothing.
use Rattle.transform.specs.Transform.{clause_d}
use Rattle.fix_push.proofs.Walk.{Walk}
use Rattle.standins.proofs.emit_d_one.Given as goal

abbrev pub invariant-loop-u : goal.invariant-loop-u
invariant-loop-u l = Walk (clause_d (record { literal = l.t; at = l.p })) l.head l.s l.initial.hs l.initial.bs l.at l.u-iterator.rest l.q l.hs l.bs l.n
