-- `fix_minimal::keep_models` meets its contract: what is kept, with what passes of the members still to come, is all that passes. Assumes nothing.
use Rattle.operator.specs.Operator.{rule_at}
use Rattle.sets.specs.Lists.{tabulate}
use Rattle.minimal.specs.Minimal.{satisfies}
use Rattle.minimal.proofs.Selecting.{Sifting}
use Rattle.fix_minimal.proofs.keep_models.Given as goal

abbrev pub invariant-loop-w : goal.invariant-loop-w
invariant-loop-w l = Sifting (satisfies (tabulate (rule_at l.heads l.bodies) l.count)) l.stage l.initial.kept l.kept l.n l.w-index
