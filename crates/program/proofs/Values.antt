-- The values of an atom, read by membership. Assumes nothing.
use mathlib.Core.Path.{◌≡◌, refl}
use Prim.Native.Nat.{ℕ, zero, suc, ◌+◌, ◌*◌, ◌/◌, ◌^◌, ◌<◌}
use native.Mathlib.Omega.{arith}
use lib.Dec.{eqb}
use lib.Pow.{shr-shr}
use Rattle.sets.specs.Words.{digit, bit}
use Rattle.sets.proofs.Digits.{digit_lt, digit_div}
use Rattle.lists.specs.Bytes.{one_if}
use Rattle.program.specs.Clauses.{Clause}
use Rattle.program.specs.Values.{value_in, clause_value, sum_for}

-- one of "the four values"
pub value_lt : (w i : ℕ) → value_in w i < 4
unfolding value_in
value_lt w i = omega arith

-- a bit as a number is the digit
bit_number : (w i : ℕ) → one_if (bit w i) ≡ digit i w
unfolding bit
bit_number w i = go (digit i w) (digit_lt i w)
  where
    go : (d : ℕ) → d < 2 → one_if (eqb d 1) ≡ d
    go zero h = refl
    go (suc zero) h = refl
    go (suc (suc d)) h = absurd (omega arith)

-- "The two bits of a name are its value": 1 where the word holds the name, and 2 where it holds the negation
pub value_bits : (w i : ℕ) → value_in w i ≡ one_if (bit w (2 * i)) + 2 * one_if (bit w (2 * i + 1))
unfolding value_in
value_bits w i =
    let h : w / 2 ^ (2 * i) / 2 ≡ w / 2 ^ (2 * i + 1) = shr-shr w (2 * i) 1 in
    omega (arith, bit_number w (2 * i), bit_number w (2 * i + 1), digit_div (2 * i) w, digit_div (2 * i + 1) w)

-- a clause's value for a name is the sum over membership
pub value_sum : (c : Clause) (i : ℕ) → clause_value c i ≡ sum_for c i
unfolding clause_value sum_for
value_sum c i = omega (arith, value_bits c.head i, value_bits c.body i, value_bits c.naf i)
