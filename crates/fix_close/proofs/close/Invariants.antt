-- `fix_close::close` meets its contract: what the members below `from` give is held, and nothing that is not in every closed set. Assumes nothing.
use Prim.Native.Nat.{◌-◌}
use lib.ListN.{length}
use Rattle.sets.specs.Lists.{tabulate}
use Rattle.rising.specs.Growing.{held}
use Rattle.operator.specs.Operator.{rule_at}
use Rattle.closure.proofs.Closing.{Closing}
use Rattle.fix_close.proofs.close.Given as goal

abbrev pub invariant-loop-m : goal.invariant-loop-m
invariant-loop-m l = Closing (tabulate (rule_at l.heads l.bodies) l.count) (held l.members l.initial.set) (length l.initial.set) l.set l.m l.from

abbrev pub decreases-loop-m : goal.decreases-loop-m
decreases-loop-m l = 18446744073709551616 - l.from
