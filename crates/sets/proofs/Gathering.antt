-- A loop that gathers the numbers that pass a test into a word, bit by bit. Assumes nothing.
use mathlib.Core.Path.{◌≡◌, sym, ap, ◌∙◌}
use mathlib.Core.Bool.{Bool, true, false, not, ◌&&◌, ◌||◌, and-false, or-false, or-true}
use mathlib.Core.Logic.{◌⊎◌, inl, inr}
use Prim.Native.Nat.{ℕ, ◌+◌, ◌*◌, ◌%◌, ◌^◌, ◌≤◌, ◌<◌}
use native.Mathlib.Omega.{arith}
use lib.Bits.{bit_or}
use lib.Dec.{eqb, ltb}
use borrow.Author.Tests.{ltb-true, ltb-false, lt-ltb, le-ltb, eqb-true, eqb-false}
use Rattle.sets.specs.Words.{bit}
use Rattle.sets.proofs.Tests.{dec, via_true, via_false}
use Rattle.sets.proofs.Digits.{bit_zero, bit-or, bit_pow}
use Rattle.sets.proofs.Highest.{one_shl}

-- one number more
below_more : (i k : ℕ) → ltb i (k + 1) ≡ (ltb i k || eqb i k)
below_more i k = go (dec (ltb i k)) (dec (eqb i k))
  where
    go : (ltb i k ≡ true) ⊎ (ltb i k ≡ false) → (eqb i k ≡ true) ⊎ (eqb i k ≡ false) → ltb i (k + 1) ≡ (ltb i k || eqb i k)
    go (inl e) f = rw e (lt-ltb i (k + 1) (omega (arith, ltb-true i k e)))
    go (inr e) (inl f) = rw (e, f) (lt-ltb i (k + 1) (omega (arith, eqb-true i k f)))
    go (inr e) (inr f) = rw (e, f) (le-ltb i (k + 1) (omega (arith, ltb-false i k e, eqb-false i k f)))

module _ (p : ℕ → Bool) (n : ℕ) where
  -- of the numbers below n, those below k are gathered
  pub record Gathering (k w : ℕ) : Type 0 where
    pub few : n ≤ 64
    pub within : k ≤ n
    pub bits : (i : ℕ) → bit w i ≡ ltb i k && p i

  pub gather_start : n ≤ 64 → Gathering 0 0
  gather_start h = record { few = h; within = omega arith; bits = λ i. bit_zero i ∙ sym (ap (λ b. b && p i) (le-ltb i 0 (omega arith))) }

  -- a number that does not pass, and one that does
  pub gather_out : (k w : ℕ) → Gathering k w → k < n → p k ≡ false → Gathering (k + 1) w
  gather_out k w s h e = record { few = s.few; within = omega arith; bits = λ i. s.bits i ∙ sym (rw (below_more i k) (go i (ltb i k) (dec (eqb i k)))) }
    where
      go : (i : ℕ) (b : Bool) → (eqb i k ≡ true) ⊎ (eqb i k ≡ false) → (b || eqb i k) && p i ≡ b && p i
      go i b (inl q) = rw (ap p (eqb-true i k q) ∙ e, and-false, and-false)
      go i b (inr q) = rw (q, or-false)

  pub gather_in : (k w : ℕ) → Gathering k w → k < n → p k ≡ true → Gathering (k + 1) (bit_or w (1 * 2 ^ k % 2 ^ 64))
  gather_in k w s h e = record {
    few = s.few;
    within = omega arith;
    bits = λ i. ap (λ x. bit (bit_or w x) i) (one_shl 64 k (omega (arith, s.few))) ∙ bit-or w (2 ^ k) i ∙ rw (bit_pow k i, s.bits i, below_more i k) (go i (ltb i k) (dec (eqb i k)));
  }
    where
      go : (i : ℕ) (b : Bool) → (eqb i k ≡ true) ⊎ (eqb i k ≡ false) → ((b && p i) || eqb i k) ≡ (b || eqb i k) && p i
      go i b (inl q) = rw (ap p (eqb-true i k q) ∙ e, q, or-true, or-true)
      go i b (inr q) = rw (q, or-false, or-false)

  -- the same, where a function that answers r tells whether it passes
  pub gather_skip : (k w : ℕ) {r : Bool} → Gathering k w → k < n → r ≡ p k → not r ≡ true → Gathering (k + 1) w
  gather_skip k w s h e f = gather_out k w s h (via_false e f)

  pub gather_one : (k w : ℕ) {r : Bool} → Gathering k w → k < n → r ≡ p k → not r ≡ false → Gathering (k + 1) (bit_or w (1 * 2 ^ k % 2 ^ 64))
  gather_one k w s h e f = gather_in k w s h (via_true e f)

  pub gather_done : (k w : ℕ) → Gathering k w → n ≤ k → (i : ℕ) → bit w i ≡ ltb i n && p i
  gather_done k w s h i = let e : k ≡ n = omega (arith, s.within) in s.bits i ∙ ap (λ m. ltb i m && p i) e
