-- `summary_values::bit_of` meets its contract: the bit is given where the value occurs, and 0 where not. Assumes nothing.
use mathlib.Core.Path.{sym, ap}
use mathlib.Core.Bool.{Bool}
use native.Mathlib.Omega.{arith}
use Rattle.sets.proofs.Tests.{via}
use Rattle.summary.specs.Summary.{bit_if}
use Rattle.summary_values.proofs.bit_of.Goals as goal

pub returns-then-value_occurs : goal.returns-then-value_occurs
returns-then-value_occurs c = (sym (ap (λ (b : Bool). bit_if b c.args.bit) (via c.value_occurs.ensures c.if-value_occurs.true)), omega arith)

pub returns-else-value_occurs : goal.returns-else-value_occurs
returns-else-value_occurs c = (sym (ap (λ (b : Bool). bit_if b c.args.bit) (via c.value_occurs.ensures c.if-value_occurs.false)), omega arith)
