-- The loop keeps that `n` and the stand-ins of the clauses from `k` on are all stand-ins. Assumes nothing.
use Rattle.program.specs.Clauses.{clause_at}
use Rattle.vocabulary.proofs.Counting.{Tally}
use Rattle.vocabulary.proofs.count_stand_ins.Given as goal

abbrev pub invariant-loop-k : goal.invariant-loop-k
invariant-loop-k l = Tally (clause_at l.heads l.bodies l.nafs) l.count l.k l.n
