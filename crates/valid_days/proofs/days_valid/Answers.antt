use native.Mathlib.Omega.{arith}
use Rattle.std.proofs.lemmas.Grind.{common_steps}
use Rattle.program.proofs.Nine.{fitting_start, fitting_more, fitting_not, fitting_done}
use Rattle.valid_days.proofs.days_valid.Goals as goal

pub loop-k-init : goal.loop-k-init
loop-k-init c = search fitting_start

pub returns-then-not-days_fit : goal.returns-then-not-days_fit
returns-then-not-days_fit c = grind (arith, common_steps, fitting_not)

pub loop-k-preserved : goal.loop-k-preserved
loop-k-preserved c = grind (arith, common_steps, fitting_more)

pub returns : goal.returns
returns c = search fitting_done
