-- `summary_values::is_settled` meets its contract: the sum of the four bits is 1 exactly where one value is shown. Assumes nothing.
use mathlib.Core.Path.{◌≡◌, refl}
use mathlib.Core.Bool.{beq}
use Prim.Native.Nat.{ℕ, ◌+◌, ◌/◌, ◌%◌, ◌<◌}
use lib.Dec.{eqb}
use Rattle.sets.specs.Lists.{every, any_of, below}
use Rattle.sets.specs.Words.{bit}
use Rattle.sets.proofs.Tests.{beq_same}
use Rattle.sets.proofs.Lists.{every_each, below_in}
use Rattle.summary.specs.Summary.{is_settled}
use Rattle.summary_values.proofs.is_settled.Goals as goal

-- so for each byte: all are tried
one_bit : (s : ℕ) → s < 256 → eqb (s % 2 + s / 2 % 2 + s / 4 % 2 + s / 8 % 2) 1 ≡ is_settled s
unfolding is_settled every any_of below bit
one_bit s h = beq_same _ _ (every_each (λ x. beq (eqb (x % 2 + x / 2 % 2 + x / 4 % 2 + x / 8 % 2) 1) (is_settled x)) (below 256) refl s (below_in 256 s h))

pub returns : goal.returns
returns c = search one_bit
