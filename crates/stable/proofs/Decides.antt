-- `is_stable` decides Definition 3.1, and `models` lists what it holds of. Assumes nothing.
use mathlib.Core.Path.{◌≡◌, sym, ap, ◌∙◌, subst}
use mathlib.Core.Logic.{◌↔◌, ◌⊎◌, ⊎_elim}
use mathlib.Core.Bool.{true}
use mathlib.Core.List.{List}
use Prim.Native.Nat.{ℕ, ◌*◌, ◌^◌, ◌<◌}
use native.Mathlib.Nat.{eq-or-lt_of_le}
use native.Mathlib.Omega.{arith}
use lib.Dec.{eqb}
use borrow.Author.Tests.{eqb-true, eq-eqb}
use Rattle.sets.specs.Lists.{◌∈◌, Rising, below}
use Rattle.sets.specs.Words.{Set, ◌⊑◌, bit, Inside, inside}
use Rattle.sets.specs.Least.{least}
use Rattle.sets.proofs.Tests.{clash, both_true, and_is_true}
use Rattle.sets.proofs.Lists.{sift_in, sift_out, below_in, in_below}
use Rattle.sets.proofs.Rising.{sift-rising, below-rising}
use Rattle.sets.proofs.Least.{least_le, least_hit, least_miss}
use Rattle.sets.proofs.Digits.{inside_bits, inside_le, bits_ext, bit-small, set_word, below_pow}
use Rattle.program.specs.Clauses.{Clause}
use Rattle.semantics.specs.Definitions.{Model, Reduct, PStable}
use Rattle.semantics.specs.Interpretations.{rules_of, reduct, is_model, smaller, least_smaller, is_stable, models}
use Rattle.stable.proofs.Readings.{is_model_Model, Model_is_model}

-- p-stable, read over words
pub record StableWord (P : List Clause) (I : ℕ) : Type 0 where
  pub model : is_model (reduct P I) I ≡ true
  pub minimal : (J : ℕ) → Inside J I → is_model (reduct P I) J ≡ true → J ≡ I

module _ (P : List Clause) (I : ℕ) where
  pub stable_word_lem : is_stable P I ≡ true → StableWord P I
  unfolding is_stable least_smaller smaller
  stable_word_lem h =
      let b = both_true (is_model (reduct P I) I) (eqb (least (smaller (reduct P I) I) I) I) h in
      let e : least (smaller (reduct P I) I) I ≡ I = eqb-true _ _ b.1 in
      record {
        model = b.0;
        minimal = λ J s m. ⊎_elim (λ e. e)
            (λ l. clash (smaller (reduct P I) I J) (and_is_true _ _ (eq-eqb _ _ s) m) (least_miss (smaller (reduct P I) I) I J (omega arith)))
            (eq-or-lt_of_le (inside_le J I s));
      }

  pub word_stable : StableWord P I → is_stable P I ≡ true
  unfolding is_stable least_smaller smaller
  word_stable s =
      let f = smaller (reduct P I) I in
      let e : least f I ≡ I = ⊎_elim (λ e. e)
      (λ l. let b = both_true (inside (least f I) I) (is_model (reduct P I) (least f I)) (least_hit f I l) in s.minimal (least f I) (eqb-true _ _ b.0) b.1)
      (eq-or-lt_of_le (least_le f I)) in
      and_is_true _ _ s.model (eq-eqb _ _ e)

  pub stable_PStable : is_stable P I ≡ true → PStable (rules_of P) (bit I)
  stable_PStable h =
      let s = stable_word_lem h in
      record {
        model = is_model_Model P I I s.model;
        minimal = λ J f m.
            let w = set_word I J (λ x t. bit-small I I x (below_pow I) (f x t)) in
            let g : bit w.0 ⊑ bit I = subst (λ (z : Set ℕ). z ⊑ bit I) (sym w.1) f in
            let k : is_model (reduct P I) w.0 ≡ true = Model_is_model P I w.0 (subst (λ (z : Set ℕ). Model z (Reduct (rules_of P) (bit I))) (sym w.1) m) in
            let e : w.0 ≡ I = s.minimal w.0 ((inside_bits w.0 I).1 g) k in
            subst (λ (z : Set ℕ). bit I ⊑ z) (ap bit (sym e) ∙ w.1) (λ x t. t);
      }

  pub PStable_stable : PStable (rules_of P) (bit I) → is_stable P I ≡ true
  PStable_stable s = word_stable (record {
    model = Model_is_model P I I s.model;
    minimal = λ J i m. bits_ext J I ((inside_bits J I).0 i) (s.minimal (bit J) ((inside_bits J I).0 i) (is_model_Model P I J m));
  })

-- Definition 3.1 is decided by `is_stable`.
pub decides : (P : List Clause) (I : ℕ) → (is_stable P I ≡ true) ↔ PStable (rules_of P) (bit I)
decides P I = (stable_PStable P I, PStable_stable P I)

-- ---- the list of all p-stable words
-- a word is in it exactly where it is one over the n atoms and p-stable
pub listed : (n : ℕ) (P : List Clause) (w : ℕ) → (w ∈ models n P) ↔ ((w < 2 ^ (2 * n)) × PStable (rules_of P) (bit w))
unfolding models
listed n P w = (
  λ m. let s = sift_out (is_stable P) (below (2 ^ (2 * n))) w m in (in_below (2 ^ (2 * n)) w s.0, stable_PStable P w s.1),
  λ h. sift_in (is_stable P) (below (2 ^ (2 * n))) w (below_in (2 ^ (2 * n)) w h.0) (PStable_stable P w h.1),
)

-- it rises, so each stands in it once
pub rising : (n : ℕ) (P : List Clause) → Rising (models n P)
unfolding models
rising n P = sift-rising (is_stable P) (below (2 ^ (2 * n))) (below-rising (2 ^ (2 * n)))
