-- `fix_choose::choose` meets its contract: it calls itself at the next clause, and each way to go on is a law. Assumes nothing.
use Prim.Native.Nat.{◌-◌}
use Rattle.operator.specs.Operator.{rule_at}
use Rattle.operator.proofs.Choosing.{Following}
use Rattle.fix_choose.proofs.+choose.Given as goal

abbrev pub decreases-choose : goal.decreases-choose
decreases-choose l = l.count - l.k

abbrev pub invariant-loop-t : goal.invariant-loop-t
invariant-loop-t l = Following (rule_at l.heads l.bodies) l.count l.i l.k l.j l.initial.wide l.n l.initial.set l.members l.wide l.set l.m l.t-iterator.rest
