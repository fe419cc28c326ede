-- A word less another, and the test of what lies between two words. Assumes nothing.
use mathlib.Core.Path.{◌≡◌, sym, ap, ◌∙◌, subst}
use mathlib.Core.Bool.{Bool, true, false, not, ◌&&◌}
use Prim.Native.Nat.{ℕ}
use lib.Dec.{T}
use lib.Bits.{bit_and, bit_or, or_zero_r}
use borrow.Author.Tests.{eqb-true}
use Rattle.sets.specs.Words.{◌⊑◌, bit, inside}
use Rattle.sets.proofs.Branches.{or_left, both_in, in_both, Between}
use Rattle.sets.proofs.Tests.{T_true, T_and, T_and_l, T_and_r}
use Rattle.sets.proofs.Digits.{bits_ext, inside→⊑, ⊑→inside}
use Rattle.literals.proofs.Literals.{bit_minus}
use Rattle.heads.specs.Heads.{without, between}

-- ---- a word less what another has of it
not_both : (a b : Bool) → T (a && not b) → T a × (T b → ⊥)
not_both true true t = absurd t
not_both true false t = (tt, λ u. u)
not_both false b t = absurd t

both_not : (a b : Bool) → T a → (T b → ⊥) → T (a && not b)
both_not true true t n = n tt
both_not true false t n = tt
both_not false b t n = t

part : (a b : ℕ) → bit_and (bit_and a b) a ≡ bit_and a b
part a b = eqb-true _ _ (T_true _ (⊑→inside (bit_and a b) a (λ i t. (in_both a b i t).0)))

pub in_without : (a b i : ℕ) → T (bit (without a b) i) → T (bit a i) × (T (bit b i) → ⊥)
unfolding without
in_without a b i t =
    let s = not_both (bit a i) (bit (bit_and a b) i) (subst T (bit_minus a (bit_and a b) i (part a b)) t) in
    (s.0, λ u. s.1 (both_in a b i s.0 u))

pub without_in : (a b i : ℕ) → T (bit a i) → (T (bit b i) → ⊥) → T (bit (without a b) i)
unfolding without
without_in a b i t n = subst T (sym (bit_minus a (bit_and a b) i (part a b))) (both_not (bit a i) (bit (bit_and a b) i) t (λ u. n (in_both a b i u).1))

-- ---- the test
pub is_between : (free w x : ℕ) → T (between free w x) → Between w free x
unfolding between
is_between free w x t = record {
  holds = inside→⊑ w x (T_and_l (inside w x) (inside x (bit_or w free)) t);
  within = inside→⊑ x (bit_or w free) (T_and_r (inside w x) (inside x (bit_or w free)) t);
}

pub between_is : (free w x : ℕ) → Between w free x → T (between free w x)
unfolding between
between_is free w x b = T_and (inside w x) (inside x (bit_or w free)) (⊑→inside w x b.holds) (⊑→inside x (bit_or w free) b.within)

-- where nothing is free there is one set
pub between_one : (free w x : ℕ) → free ≡ 0 → Between w free x → w ≡ x
between_one free w x z b = bits_ext w x b.holds (λ i t. subst (λ (y : ℕ). T (bit y i)) (ap (bit_or w) z ∙ or_zero_r w) (b.within i t))

pub one_between : (free w : ℕ) → Between w free w
one_between free w = record { holds = λ i t. t; within = λ i t. or_left w free i t }
