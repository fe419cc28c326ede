-- Satisfaction and reduct over words are those over sets of literals. Assumes nothing.
use mathlib.Core.Path.{◌≡◌, refl, sym, ap, ◌∙◌, subst, fun_ext}
use mathlib.Core.Logic.{◌↔◌, ◌⊎◌, inl, inr, ⊎_elim}
use mathlib.Core.Bool.{Bool, true, false, not, ◌&&◌, ◌||◌}
use mathlib.Core.List.{List, map}
use Prim.Native.Nat.{ℕ}
use lib.Dec.{T}
use lib.Bits.{bit_and}
use borrow.Author.Tests.{eqb-true, eqb-false, eq-eqb}
use Rattle.sets.specs.Lists.{sift}
use Rattle.sets.specs.Words.{bit, Inside, Apart, inside, apart}
use Rattle.sets.proofs.Tests.{dec, clash}
use Rattle.sets.proofs.Lists.{in_map, map_in, every_each, each_every, sift_in, sift_out}
use Rattle.sets.proofs.Digits.{inside_bits, meets_bits, bit_zero}
use Rattle.program.specs.Clauses.{Clause, clause_of}
use Rattle.semantics.specs.Definitions.{Rule, Satisfies, Model, Reduct, positive, ◌⊨◌, ◌⊨not◌}
use Rattle.semantics.specs.Interpretations.{rule_of, rules_of, satisfies, reduct, is_model}
use Rattle.semantics.proofs.FourValues.{holds-member, not_absent}

-- the word lies in w: each of its literals holds; it misses w: "not" of each holds; it meets w: some literal holds
pub inside_holds : (a w : ℕ) → Inside a w ↔ ((L : ℕ) → T (bit a L) → bit w ⊨ L)
inside_holds a w = (
  λ h L t. (holds-member (bit w) L).1 ((inside_bits a w).0 h L t),
  λ f. (inside_bits a w).1 (λ L t. (holds-member (bit w) L).0 (f L t)),
)

pub apart_none : (a w : ℕ) → Apart a w ↔ ((L : ℕ) → T (bit a L) → T (bit w L) → ⊥)
apart_none a w = (
  λ h L t u. (meets_bits a w).1 (L, t, u) h,
  λ f. ⊎_elim (λ t. eqb-true (bit_and a w) 0 t) (λ e. absurd (let r = (meets_bits a w).0 (eqb-false (bit_and a w) 0 e) in f r.0 r.1 r.2)) (dec (apart a w)),
)

pub apart_not : (a w : ℕ) → Apart a w ↔ ((L : ℕ) → T (bit a L) → bit w ⊨not L)
apart_not a w = (
  λ h L t. (not_absent (bit w) L).1 ((apart_none a w).0 h L t),
  λ f. (apart_none a w).1 (λ L t. (not_absent (bit w) L).0 (f L t)),
)

pub meets_some : (a w : ℕ) → (Apart a w → ⊥) ↔ ((L : ℕ) × T (bit a L) × (bit w ⊨ L))
meets_some a w = (
  λ h. let r = (meets_bits a w).0 h in (r.0, r.1, (holds-member (bit w) r.0).1 r.2),
  λ r. (meets_bits a w).1 (r.0, r.1, (holds-member (bit w) r.0).0 r.2),
)

-- ---- a word satisfies a clause
module _ (w : ℕ) (c : Clause) where
  pub satisfies_Satisfies : satisfies w c ≡ true → Satisfies (bit w) (rule_of c)
  unfolding satisfies
  satisfies_Satisfies h = go (inside c.body w) (apart c.naf w) (apart c.head w) refl refl refl h
    where
      go : (a b d : Bool) → inside c.body w ≡ a → apart c.naf w ≡ b → apart c.head w ≡ d → not (a && b) || not d ≡ true → Satisfies (bit w) (rule_of c)
      go false b d p q r h = inr (λ g. eqb-false _ _ p ((inside_holds c.body w).1 g.0))
      go true false d p q r h = inr (λ g. eqb-false _ _ q ((apart_not c.naf w).1 g.1))
      go true true true p q r h = clash false h refl
      go true true false p q r h = inl ((meets_some c.head w).0 (eqb-false _ _ r))

  pub Satisfies_satisfies : Satisfies (bit w) (rule_of c) → satisfies w c ≡ true
  unfolding satisfies
  Satisfies_satisfies s = go (inside c.body w) (apart c.naf w) (apart c.head w) refl refl refl s
    where
      go : (a b d : Bool) → inside c.body w ≡ a → apart c.naf w ≡ b → apart c.head w ≡ d → Satisfies (bit w) (rule_of c) → not (a && b) || not d ≡ true
      go false b d p q r s = refl
      go true false d p q r s = refl
      go true true false p q r s = refl
      go true true true p q r (inl h) = absurd ((meets_some c.head w).1 h (eqb-true _ _ r))
      go true true true p q r (inr n) = absurd (n ((inside_holds c.body w).0 (eqb-true _ _ p), (apart_not c.naf w).0 (eqb-true _ _ q)))

-- ---- a word satisfies a reduct
abbrev pub strip : Clause → Clause
strip c = clause_of c.head c.body 0

strip_positive : (c : Clause) → positive (rule_of c) ≡ rule_of (strip c)
strip_positive c = λ i. record { head = bit c.head; body = bit c.body; naf = fun_ext (λ L. sym (bit_zero L)) i }

module _ (P : List Clause) (I J : ℕ) where
  pub is_model_Model : is_model (reduct P I) J ≡ true → Model (bit J) (Reduct (rules_of P) (bit I))
  unfolding is_model reduct
  is_model_Model h r m =
      let s = map_in rule_of m.0 P m.1 in
      let c = s.0 in
      let a : Apart c.naf I = (apart_none c.naf I).1 (λ L t. m.3 L (subst (λ (z : Rule). T (z.naf L)) (sym s.2) t)) in
      let k = in_map strip c (sift (λ d. apart d.naf I) P) (sift_in (λ d. apart d.naf I) P c s.1 (eq-eqb _ _ a)) in
      let e : r ≡ rule_of (strip c) = m.2 ∙ ap positive s.2 ∙ strip_positive c in
      subst (λ (z : Rule). Satisfies (bit J) z) (sym e) (satisfies_Satisfies J (strip c) (every_each (satisfies J) (map strip (sift (λ d. apart d.naf I) P)) h (strip c) k))

  pub Model_is_model : Model (bit J) (Reduct (rules_of P) (bit I)) → is_model (reduct P I) J ≡ true
  unfolding is_model reduct
  Model_is_model f = each_every (satisfies J) (map strip (sift (λ d. apart d.naf I) P)) (λ d m.
      let s = map_in strip d (sift (λ d. apart d.naf I) P) m in
      let c = s.0 in
      let k = sift_out (λ d. apart d.naf I) P c s.1 in
      let g = f (rule_of (strip c)) (rule_of c, in_map rule_of c P k.0, sym (strip_positive c), (apart_none c.naf I).0 (eqb-true _ _ k.1)) in
      ap (satisfies J) s.2 ∙ Satisfies_satisfies J (strip c) g)
