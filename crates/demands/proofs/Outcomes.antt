-- No outcome is two of the three, nor a refusal besides. Assumes nothing.
use Rattle.std.specs.Prelude.{Result, Ok, Err}
use mathlib.Core.Path.{◌≡◌}
use Prim.Native.Nat.{ℕ}
use native.Mathlib.Omega.{arith}
use Rattle.program.specs.declared.Outcome.{Outcome}
use Rattle.program.specs.declared.Outcome.TheVariants.{Complete, Full, Spent}
use Rattle.program.specs.declared.Refusal.{Refusal}

module _ {A : Type 0} {o : Result Outcome Refusal} where
  pub full-spent : o ≡ Ok Full → o ≡ Ok Spent → A
  full-spent a b = absurd (let z : ◌≡◌ {A = ℕ} 0 1 = cc in omega arith)

  pub full-complete : o ≡ Ok Full → o ≡ Ok Complete → A
  full-complete a b = absurd (let z : ◌≡◌ {A = ℕ} 0 1 = cc in omega arith)

  pub spent-complete : o ≡ Ok Spent → o ≡ Ok Complete → A
  spent-complete a b = absurd (let z : ◌≡◌ {A = ℕ} 0 1 = cc in omega arith)

  module _ {r : Refusal} where
    pub refused_full : o ≡ Err r → o ≡ Ok Full → A
    refused_full a b = absurd (let z : ◌≡◌ {A = ℕ} 0 1 = cc in omega arith)

    pub refused-spent : o ≡ Err r → o ≡ Ok Spent → A
    refused-spent a b = absurd (let z : ◌≡◌ {A = ℕ} 0 1 = cc in omega arith)

    pub refused-complete : o ≡ Err r → o ≡ Ok Complete → A
    refused-complete a b = absurd (let z : ◌≡◌ {A = ℕ} 0 1 = cc in omega arith)

-- and is refused in one way
pub one_refusal : {o : Result Outcome Refusal} {r s : Refusal} → o ≡ Err r → o ≡ Err s → r ≡ s
one_refusal a b = cc
