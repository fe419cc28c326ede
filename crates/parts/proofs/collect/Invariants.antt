-- The loop keeps that the set and the literal parts of the canonical words from `p` on make the whole. Assumes nothing.
use Rattle.parts.proofs.Collecting.{Collecting}
use Rattle.parts.proofs.collect.Given as goal

abbrev pub invariant-loop-p : goal.invariant-loop-p
invariant-loop-p l = Collecting l.m l.list l.count l.initial.set l.set l.n l.p
