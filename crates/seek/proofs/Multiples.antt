-- Multiples of powers of two, and one bit of a word as a shift and a test give it. Assumes nothing.
use mathlib.Core.Path.{◌≡◌, sym, ap, ◌∙◌}
use mathlib.Core.Logic.{◌⊎◌, ⊎_elim}
use Prim.Native.Nat.{ℕ, suc, ◌+◌, ◌-◌, ◌*◌, ◌/◌, ◌%◌, ◌^◌, ◌≤◌, ◌<◌}
use native.Mathlib.Nat.{mod-add-mod, mod-eq_of_lt, mul-mod_left, mul-mod_right, one-mul, zero-mul, zero-add, zero-mod}
use native.Mathlib.Omega.{arith}
use lib.Pow.{pow-add, mod-mod-pow, mod-pow-add, split}
use lib.Bits.{bit_and, and_mask}
use Rattle.sets.proofs.Tests.{lt_or_ge}

-- ---- multiples
-- of a lower power too
pub low_down : (j k a : ℕ) → j ≤ k → a % 2 ^ k ≡ 0 → a % 2 ^ j ≡ 0
low_down j k a h z = let e : k - j + j ≡ k = omega arith in sym (mod-mod-pow a (k - j) j) ∙ rw (e, z) (zero-mod (2 ^ j))

pub pow_low : (j k : ℕ) → j ≤ k → 2 ^ k % 2 ^ j ≡ 0
pow_low j k h = let e : j + (k - j) ≡ k = omega arith in rw (e, mul-mod_right (2 ^ j) (2 ^ (k - j))) at (ap (λ x. x % 2 ^ j) (pow-add 2 j (k - j)))

-- two that differ are at least the power apart
pub apart_by : (k a b : ℕ) → a % 2 ^ k ≡ 0 → b % 2 ^ k ≡ 0 → a < b → a + 2 ^ k ≤ b
apart_by k a b p q l =
    let e : a + (b - a) ≡ b = omega arith in
    let f : 0 + (b - a) ≡ b - a = omega arith in
    let d : (b - a) % 2 ^ k ≡ 0 = rw (p, f, e) at (mod-add-mod a (2 ^ k) (b - a)) ∙ q in
    ⊎_elim (λ (h : b - a < 2 ^ k). absurd (omega (arith, mod-eq_of_lt h))) (λ (h : 2 ^ k ≤ b - a). omega arith) (lt_or_ge (b - a) (2 ^ k))

-- ---- the bit k of w
module _ (w k : ℕ) where
  rest_is : w % 2 ^ suc k ≡ bit_and (w / 2 ^ k) 1 * 2 ^ k + w % 2 ^ k
  rest_is = let e : 1 + k ≡ suc k = omega arith in rw (e, ← and_mask (w / 2 ^ k) 1) at (mod-pow-add w 1 k)

  pub rest_set : (bit_and (w / 2 ^ k) 1 ≡ 0 → ⊥) → w % 2 ^ suc k ≡ 2 ^ k + w % 2 ^ k
  rest_set h = let o : bit_and (w / 2 ^ k) 1 ≡ 1 = omega (arith, h, and_mask (w / 2 ^ k) 1) in rest_is ∙ rw (o, one-mul)

  pub rest_clear : bit_and (w / 2 ^ k) 1 ≡ 0 → w % 2 ^ suc k ≡ w % 2 ^ k
  rest_clear z = rest_is ∙ rw (z, zero-mul, zero-add)

-- the word without its k lowest bits
pub cut_low : (w k : ℕ) → (w - w % 2 ^ k) % 2 ^ k ≡ 0
cut_low w k = let e : w - w % 2 ^ k ≡ w / 2 ^ k * 2 ^ k = omega (arith, split w k) in rw e (mul-mod_left (w / 2 ^ k) (2 ^ k))
