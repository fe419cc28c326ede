-- `summary_values::occurring_in` meets its contract: the sum of the four bits, each of which is at most its value, fits a byte. Assumes nothing.
use native.Mathlib.Omega.{arith}
use Rattle.summary.specs.Summary.{occurring_in}
use Rattle.summary_values.proofs.occurring_in.Goals as goal

pub returns : goal.returns
unfolding occurring_in
returns c = omega arith
