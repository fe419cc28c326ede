-- `fix_step::step` meets its contract: the members that the loop has not come to have still to give. Assumes nothing.
use Rattle.sets.specs.Lists.{tabulate}
use Rattle.operator.specs.Operator.{rule_at}
use Rattle.operator.proofs.Stepping.{Stepping}
use Rattle.fix_step.proofs.step.Given as goal

abbrev pub invariant-loop-i : goal.invariant-loop-i
invariant-loop-i l = Stepping (tabulate (rule_at l.heads l.bodies) l.count) l.stage l.members l.initial.after l.after l.n l.i-index
