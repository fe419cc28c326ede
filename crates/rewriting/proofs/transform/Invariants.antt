-- The loop keeps that what the clauses from `k` on become is still to come, their stand-ins from `s` on. Assumes nothing.
use Rattle.program.specs.Clauses.{clause_at}
use Rattle.rewriting.proofs.Rewriting.{Rewriting}
use Rattle.rewriting.proofs.transform.Given as goal

abbrev pub invariant-loop-k : goal.invariant-loop-k
invariant-loop-k l = Rewriting l.m (clause_at l.heads l.bodies l.nafs) l.count l.initial.hs l.initial.bs l.s l.n l.k l.hs l.bs
