-- `fix_made::made` meets its contract: it calls itself at the next head, and each way to go on is a law. Assumes nothing.
use Prim.Native.Nat.{◌-◌}
use Rattle.heads.proofs.Reaching.{Trying}
use Rattle.fix_made.proofs.+made.Given as goal

abbrev pub decreases-made : goal.decreases-made
decreases-made l = l.n - l.k

abbrev pub invariant-loop-rest : goal.invariant-loop-rest
invariant-loop-rest l = Trying l.wide l.n l.w l.k l.j l.rest

abbrev pub decreases-loop-rest : goal.decreases-loop-rest
decreases-loop-rest l = l.rest
