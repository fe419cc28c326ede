-- Satisfaction by the four values is membership, and "not" is absence. Assumes nothing.
use mathlib.Core.Path.{◌≡◌, sym, ap, ◌∙◌, subst}
use mathlib.Core.Logic.{◌↔◌, ⊎_elim}
use mathlib.Core.Bool.{Bool, true, false}
use Prim.Native.Nat.{ℕ, zero, suc, pred, ◌+◌, ◌*◌, ◌/◌, ◌%◌, ◌^◌, ◌<◌}
use native.Mathlib.Nat.{eq-zero-or-pos}
use native.Mathlib.Numerals.{add-one}
use native.Mathlib.Omega.{arith}
use lib.Dec.{T, eqb}
use lib.Pow.{shr-shr}
use borrow.Author.Tests.{eq-eqb, ne_eqb}
use Rattle.sets.specs.Words.{Set, digit, bit}
use Rattle.sets.proofs.Digits.{digit_lt, digit_div}
use Rattle.program.specs.Values.{value_in}
use Rattle.semantics.specs.Definitions.{complement, Value, undefined, 𝐭, 𝐟, contradictory, ◌⪯◌, value_by, value_of, ◌⊨◌, ◌⊨not◌}

pub complement_twice : (L : ℕ) → complement (complement L) ≡ L
unfolding complement
complement_twice L = ⊎_elim even odd (eq-zero-or-pos (L % 2))
  where
    even : L % 2 ≡ 0 → complement (complement L) ≡ L
    even e =
        let d : (suc L % 2 ≡ 0 → ⊥) = omega arith in
        rw (eq-eqb (L % 2) 0 e, ne_eqb (suc L % 2) 0 d)

    odd : 0 < L % 2 → complement (complement L) ≡ L
    odd p =
        let d : (L % 2 ≡ 0 → ⊥) = omega arith in
        let e : pred L % 2 ≡ 0 = omega arith in
        let h : suc (pred L) ≡ L = omega arith in
        rw (ne_eqb (L % 2) 0 d, eq-eqb (pred L % 2) 0 e) h

module _ (I : Set ℕ) (L : ℕ) where
  -- t ⪯ I(L) exactly where L ∈ I
  pub holds-member : (I ⊨ L) ↔ T (I L)
  unfolding ◌⊨◌ value_of
  holds-member = go (I L) (I (complement L))
    where
      go : (a b : Bool) → T (𝐭 ⪯ value_by a b) ↔ T a
      go true true = (λ t. t, λ t. t)
      go true false = (λ t. t, λ t. t)
      go false true = (λ t. t, λ t. t)
      go false false = (λ t. t, λ t. t)

  -- I(L) ⪯ f exactly where L ∉ I
  pub not_absent : (I ⊨not L) ↔ (T (I L) → ⊥)
  unfolding ◌⊨not◌ value_of
  not_absent = go (I L) (I (complement L))
    where
      go : (a b : Bool) → T (value_by a b ⪯ 𝐟) ↔ (T a → ⊥)
      go true true = (λ t. absurd t, λ f. f tt)
      go true false = (λ t. absurd t, λ f. f tt)
      go false true = (λ t u. u, λ f. tt)
      go false false = (λ t u. u, λ f. tt)

  -- Definition 2.1, 1 (b): "I ⊨ ¬L iff f ⪯ I(L)"
  pub holds-complement : (I ⊨ complement L) ↔ T (𝐟 ⪯ value_of I L)
  unfolding ◌⊨◌ value_of
  holds-complement = subst (λ (K : ℕ). T (𝐭 ⪯ value_by (I (complement L)) (I K)) ↔ T (𝐟 ⪯ value_by (I L) (I (complement L)))) (sym (complement_twice L)) (go (I L) (I (complement L)))
    where
      go : (a b : Bool) → T (𝐭 ⪯ value_by b a) ↔ T (𝐟 ⪯ value_by a b)
      go true true = (λ t. t, λ t. t)
      go true false = (λ t. t, λ t. t)
      go false true = (λ t. t, λ t. t)
      go false false = (λ t. t, λ t. t)

  -- Section 3.1: "I ⊨ not ¬L iff I(L) ⪯ t"
  pub not-complement : (I ⊨not complement L) ↔ T (value_of I L ⪯ 𝐭)
  unfolding ◌⊨not◌ value_of
  not-complement = subst (λ (K : ℕ). T (value_by (I (complement L)) (I K) ⪯ 𝐟) ↔ T (value_by (I L) (I (complement L)) ⪯ 𝐭)) (sym (complement_twice L)) (go (I L) (I (complement L)))
    where
      go : (a b : Bool) → T (value_by b a ⪯ 𝐟) ↔ T (value_by a b ⪯ 𝐭)
      go true true = (λ t. t, λ t. t)
      go true false = (λ t. t, λ t. t)
      go false true = (λ t. t, λ t. t)
      go false false = (λ t. t, λ t. t)

-- Document 01's numbers: "0 undefined, 1 true, 2 false, 3 contradictory".
unfoldable pub number_of : Value → ℕ
number_of undefined = 0
number_of 𝐭 = 1
number_of 𝐟 = 2
number_of contradictory = 3

-- the two bits of an atom are the paper's value of it
pub value_number : (w i : ℕ) → number_of (value_of (bit w) (2 * i)) ≡ value_in w i
unfolding number_of value_of complement bit value_in
value_number w i =
    let e : 2 * i % 2 ≡ 0 = omega arith in
    rw (eq-eqb (2 * i % 2) 0 e)
    (go (digit (2 * i) w) (digit (suc (2 * i)) w) (digit_lt (2 * i) w) (digit_lt (suc (2 * i)) w)
    (let f = digit_div (2 * i) w in
    let g = digit_div (suc (2 * i)) w in
    let h : w / 2 ^ (2 * i) / 2 ≡ w / 2 ^ suc (2 * i) = shr-shr w (2 * i) 1 ∙ ap (λ x. w / 2 ^ x) (add-one (2 * i)) in
    omega arith))
  where
    go : (x y : ℕ) → x < 2 → y < 2 → x + 2 * y ≡ w / 2 ^ (2 * i) % 4 → number_of (value_by (eqb x 1) (eqb y 1)) ≡ w / 2 ^ (2 * i) % 4
    go zero zero p q r = r
    go zero (suc zero) p q r = r
    go zero (suc (suc y)) p q r = absurd (omega arith)
    go (suc zero) zero p q r = r
    go (suc zero) (suc zero) p q r = r
    go (suc zero) (suc (suc y)) p q r = absurd (omega arith)
    go (suc (suc x)) y p q r = absurd (omega arith)
