-- Words as sets, and the sets between two words in two branches, by the highest bit that is undecided. Assumes nothing.
use mathlib.Core.Path.{◌≡◌, refl, sym, ◌∙◌, subst}
use mathlib.Core.Logic.{◌⊎◌, inl, inr, ⊎_elim}
use Prim.Native.Nat.{ℕ, ◌+◌, ◌-◌, ◌*◌, ◌^◌, ◌<◌}
use native.Mathlib.Nat.{one-mul}
use native.Mathlib.Omega.{arith}
use lib.Dec.{T}
use lib.Pow.{pow_pos}
use lib.Bits.{bit_and, bit_or, or_shifted}
use borrow.Author.Tests.{eqb-true, eq-eqb}
use Rattle.sets.specs.Words.{◌⊑◌, bit, Highest}
use Rattle.sets.proofs.Tests.{T?, T_true, T_and, T_and_l, T_and_r, T_or, T_or_l, T_or_r}
use Rattle.sets.proofs.Digits.{bit-and, bit-or, bit_pow}

-- ---- words as sets
pub in_or : (a b i : ℕ) → T (bit (bit_or a b) i) → T (bit a i) ⊎ T (bit b i)
in_or a b i t = T_or (bit a i) (bit b i) (subst T (bit-or a b i) t)

pub or_left : (a b i : ℕ) → T (bit a i) → T (bit (bit_or a b) i)
or_left a b i t = subst T (sym (bit-or a b i)) (T_or_l (bit a i) (bit b i) t)

pub or_right : (a b i : ℕ) → T (bit b i) → T (bit (bit_or a b) i)
or_right a b i t = subst T (sym (bit-or a b i)) (T_or_r (bit a i) (bit b i) t)

pub both_in : (a b i : ℕ) → T (bit a i) → T (bit b i) → T (bit (bit_and a b) i)
both_in a b i t u = subst T (sym (bit-and a b i)) (T_and (bit a i) (bit b i) t u)

pub in_both : (a b i : ℕ) → T (bit (bit_and a b) i) → T (bit a i) × T (bit b i)
in_both a b i t = let u = subst T (bit-and a b i) t in (T_and_l (bit a i) (bit b i) u, T_and_r (bit a i) (bit b i) u)

pub in_pow : (h i : ℕ) → T (bit (2 ^ h) i) → i ≡ h
in_pow h i u = eqb-true i h (sym (bit_pow h i) ∙ T_true (bit (2 ^ h) i) u)

pub pow_in : (h : ℕ) → T (bit (2 ^ h) h)
pow_in h = subst T (sym (bit_pow h h ∙ eq-eqb h h refl)) tt

-- ---- K holds J, and nothing outside J and R
pub record Between (J R K : ℕ) : Type 0 where
  pub holds : bit J ⊑ bit K
  pub within : bit K ⊑ bit (bit_or J R)

-- ---- the highest bit and the rest
module _ (R t : ℕ) (h : Highest R t) where
  pub rest_less : R - t < R
  rest_less = omega (arith, h.within, h.power, pow_pos h.place)

  parts : bit_or t (R - t) ≡ R
  parts =
      let e : 1 * 2 ^ h.place ≡ t = one-mul (2 ^ h.place) ∙ sym h.power in
      let l : R - t < 2 ^ h.place = omega (arith, h.most, h.power) in
      let q : t + (R - t) ≡ R = omega (arith, h.within) in
      rw (e, q) at (or_shifted 1 h.place (R - t) l)

  top_in : (i : ℕ) → T (bit t i) → T (bit R i)
  top_in i u = subst (λ (x : ℕ). T (bit x i)) parts (or_left t (R - t) i u)

  rest_in : (i : ℕ) → T (bit (R - t) i) → T (bit R i)
  rest_in i u = subst (λ (x : ℕ). T (bit x i)) parts (or_right t (R - t) i u)

  in_parts : (i : ℕ) → T (bit R i) → T (bit t i) ⊎ T (bit (R - t) i)
  in_parts i u = in_or t (R - t) i (subst (λ (x : ℕ). T (bit x i)) (sym parts) u)

  top_only : (i : ℕ) → T (bit t i) → i ≡ h.place
  top_only i u = in_pow h.place i (subst (λ (x : ℕ). T (bit x i)) h.power u)

  module _ (J : ℕ) where
    pub out_wider : (i : ℕ) → T (bit (bit_or J (R - t)) i) → T (bit (bit_or J R) i)
    out_wider i u = ⊎_elim (λ a. or_left J R i a) (λ b. or_right J R i (rest_in i b)) (in_or J (R - t) i u)

    pub in_wider : (i : ℕ) → T (bit (bit_or (bit_or J t) (R - t)) i) → T (bit (bit_or J R) i)
    in_wider i u = ⊎_elim
        (λ a. ⊎_elim (λ x. or_left J R i x) (λ y. or_right J R i (top_in i y)) (in_or J t i a))
        (λ b. or_right J R i (rest_in i b))
        (in_or (bit_or J t) (R - t) i u)

    -- what lies in a branch lies in the whole, and what lies in the whole lies in a branch
    pub from_out : (K : ℕ) → Between J (R - t) K → Between J R K
    from_out K b = record { holds = b.holds; within = λ i u. out_wider i (b.within i u) }

    pub from_in : (K : ℕ) → Between (bit_or J t) (R - t) K → Between J R K
    from_in K b = record { holds = λ i u. b.holds i (or_left J t i u); within = λ i u. in_wider i (b.within i u) }

    pub branches : (K : ℕ) → Between J R K → Between J (R - t) K ⊎ Between (bit_or J t) (R - t) K
    branches K b = ⊎_elim with_top without_top (T? (bit K h.place))
      where
        with_top : T (bit K h.place) → Between J (R - t) K ⊎ Between (bit_or J t) (R - t) K
        with_top u = inr (record {
          holds = λ i v. ⊎_elim (λ a. b.holds i a) (λ c. subst (λ (j : ℕ). T (bit K j)) (sym (top_only i c)) u) (in_or J t i v);
          within = λ i v. ⊎_elim
              (λ a. or_left (bit_or J t) (R - t) i (or_left J t i a))
              (λ r. ⊎_elim (λ c. or_left (bit_or J t) (R - t) i (or_right J t i c)) (λ d. or_right (bit_or J t) (R - t) i d) (in_parts i r))
              (in_or J R i (b.within i v));
        })

        without_top : (T (bit K h.place) → ⊥) → Between J (R - t) K ⊎ Between (bit_or J t) (R - t) K
        without_top f = inl (record {
          holds = b.holds;
          within = λ i v. ⊎_elim
              (λ a. or_left J (R - t) i a)
              (λ r. ⊎_elim (λ c. absurd (f (subst (λ (j : ℕ). T (bit K j)) (top_only i c) v))) (λ d. or_right J (R - t) i d) (in_parts i r))
              (in_or J R i (b.within i v));
        })
