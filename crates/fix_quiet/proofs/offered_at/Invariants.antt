-- `fix_quiet::offered_at` meets its contract: what the clauses before `k` offer, joined with what those from `k` on offer, is all. Assumes nothing.
use Rattle.closure.proofs.Closing.{Offering}
use Rattle.fix_quiet.proofs.offered_at.Given as goal

abbrev pub invariant-loop-k : goal.invariant-loop-k
invariant-loop-k l = Offering l.heads l.bodies l.count l.i l.all l.k
