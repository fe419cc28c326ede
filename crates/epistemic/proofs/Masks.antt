-- p-stability on words, and the theorem with words on both sides. Assumes nothing.
use mathlib.Core.Path.{◌≡◌, refl, sym, ap, subst, ◌∙◌}
use mathlib.Core.Logic.{◌⊎◌, inl, inr, ⊎_elim, ◌↔◌}
use mathlib.Core.Bool.{Bool, true, false, true≢false, not, ◌&&◌}
use mathlib.Core.List.{List, [], ◌∷◌}
use Prim.Native.Nat.{ℕ, suc, ◌^◌, ◌<◌}
use lib.Dec.{T, eqb, T_not, not_T}
use lib.Bits.{bit_and}
use Rattle.epistemic.proofs.Kappa.{RModel, of_reduct, to-reduct}
use Rattle.epistemic.proofs.Naming.{Small}
use Rattle.epistemic.proofs.WordMain.{WSame, program, Answer, theorem_words}
use Rattle.epistemic.proofs.Words.{meets→Any, Any→meets}
use Rattle.epistemic.specs.Positive.{All, Any, None}
use Rattle.epistemic.specs.Transform.{Tagged, Stable}
use Rattle.program.specs.Clauses.{Clause, Below}
use Rattle.sets.proofs.Digits.{inside_bits, bits_ext, set_word, inside→⊑, ⊑→inside, bit-small}
use Rattle.sets.proofs.Lists.{below_in, in_below, in_sift, out_sift}
use Rattle.sets.proofs.Masks.{mask-sift}
use Rattle.sets.proofs.Tests.{both_true, and_is_true, T?}
use Rattle.sets.specs.Lists.{sift, below, every, ◌∈◌, Each}
use Rattle.sets.specs.Words.{mask, Set, ◌⊑◌, bit, inside}
use Rattle.stable.proofs.Checking.{model_cons}
use Rattle.stable.proofs.Decides.{StableWord}
use Rattle.semantics.specs.Interpretations.{reduct as stable_reduct, is_model, violates}
use borrow.Author.Tests.{not-true}

-- the bits of w below m, lowest first
unfoldable pub unmask : ℕ → ℕ → List ℕ
unmask m w = sift (bit w) (below m)

pub unmask_in : (m w x : ℕ) → x < m → T (bit w x) → x ∈ unmask m w
unfolding unmask
unmask_in m w x h t = in_sift (bit w) (below m) x (below_in m x h) t

pub unmask_out : (m w x : ℕ) → x ∈ unmask m w → (x < m) × T (bit w x)
unfolding unmask
unmask_out m w x i = let s = out_sift (bit w) (below m) x i in (in_below m x s.0, s.1)

pub mask_unmask : (m w : ℕ) → w < 2 ^ m → mask (unmask m w) ≡ w
unfolding unmask
mask_unmask m w h = mask-sift m w (bit w) h (λ i l. refl)

unfoldable pub tagged_of : ℕ → ℕ → Clause → Tagged
unfolding unmask
tagged_of m t c = record { tag = t; head = unmask m c.head; body = unmask m c.body; naf = unmask m c.naf }

-- the clauses are tagged by their places
unfoldable pub tagged_from : ℕ → ℕ → List Clause → List Tagged
unfolding tagged_of
tagged_from m t [] = []
tagged_from m t (c ∷ C) = tagged_of m t c ∷ tagged_from m (suc t) C

module _ (m w v : ℕ) (h : w < 2 ^ m) where
  all→within : All (bit v) (unmask m w) → T (inside w v)
  all→within a = ⊑→inside w v (λ i t. a i (unmask_in m w i (bit-small w m i h t) t))

  within→all : T (inside w v) → All (bit v) (unmask m w)
  within→all t i k = inside→⊑ w v t i (unmask_out m w i k).1

  any→meets : Any (bit v) (unmask m w) → T (not (eqb (bit_and w v) 0))
  any→meets s = subst (λ z. T (not (eqb (bit_and z v) 0))) (mask_unmask m w h) (Any→meets v (unmask m w) s)

  meets→any : T (not (eqb (bit_and w v) 0)) → Any (bit v) (unmask m w)
  meets→any t = meets→Any v (unmask m w) (subst (λ z. T (not (eqb (bit_and z v) 0))) (sym (mask_unmask m w h)) t)

  none→apart : None (bit v) (unmask m w) → T (eqb (bit_and w v) 0)
  none→apart f = ⊎_elim (λ t. t) (λ g. absurd (let s = meets→any (not_T (eqb (bit_and w v) 0) g) in f s.0 s.1 s.2)) (T? (eqb (bit_and w v) 0))

  apart→none : T (eqb (bit_and w v) 0) → None (bit v) (unmask m w)
  apart→none t i k u = T_not (eqb (bit_and w v) 0) (any→meets (i, k, u)) t

module _ (m I J : ℕ) where
  keeps_to : (c : Clause) → Below m c → violates I J c ≡ false → None (bit I) (unmask m c.naf) → All (bit J) (unmask m c.body) → Any (bit J) (unmask m c.head)
  unfolding violates
  keeps_to c b f n a = meets→any m c.head J b.heads (go (inside c.body J) (eqb (bit_and c.naf I) 0) (eqb (bit_and c.head J) 0)
      (all→within m c.body J b.bodies a) (none→apart m c.naf I b.nafs n) f)
    where
      go : (x y z : Bool) → T x → T y → x && y && z ≡ false → T (not z)
      go true true true p q e = absurd (true≢false e)
      go true true false p q e = tt
      go true false z p q e = absurd q
      go false y z p q e = absurd p

  keeps_of : (c : Clause) → Below m c → (None (bit I) (unmask m c.naf) → All (bit J) (unmask m c.body) → Any (bit J) (unmask m c.head)) → violates I J c ≡ false
  unfolding violates
  keeps_of c b f = go (inside c.body J) (eqb (bit_and c.naf I) 0) (eqb (bit_and c.head J) 0)
      (λ p q. any→meets m c.head J b.heads (f (apart→none m c.naf I b.nafs q) (within→all m c.body J b.bodies p)))
    where
      go : (x y z : Bool) → (T x → T y → T (not z)) → x && y && z ≡ false
      go true true true g = absurd (g tt tt)
      go true true false g = refl
      go true false z g = refl
      go false y z g = refl

  model_to : (t : ℕ) (C : List Clause) → Each (Below m) C → is_model (stable_reduct C I) J ≡ true → RModel (tagged_from m t C) (bit I) (bit J)
  unfolding tagged_from tagged_of
  model_to t [] b h d i = absurd i
  model_to t (c ∷ C) b h d i = let p = both_true _ _ (sym (model_cons c C I J) ∙ h) in go i (keeps_to c (b c (inl refl)) (not-true _ p.0)) (model_to (suc t) C (λ x k. b x (inr k)) p.1)
    where
      go : (d ≡ tagged_of m t c) ⊎ (d ∈ tagged_from m (suc t) C) → (None (bit I) (unmask m c.naf) → All (bit J) (unmask m c.body) → Any (bit J) (unmask m c.head))
          → RModel (tagged_from m (suc t) C) (bit I) (bit J) → None (bit I) d.naf → All (bit J) d.body → Any (bit J) d.head
      go (inl e) k r = subst (λ (z : Tagged). None (bit I) z.naf → All (bit J) z.body → Any (bit J) z.head) (sym e) k
      go (inr j) k r = r d j

  model_of : (t : ℕ) (C : List Clause) → Each (Below m) C → RModel (tagged_from m t C) (bit I) (bit J) → is_model (stable_reduct C I) J ≡ true
  unfolding tagged_from tagged_of is_model stable_reduct every sift
  model_of t [] b h = refl
  model_of t (c ∷ C) b h = model_cons c C I J ∙ and_is_true _ _ (ap not (keeps_of c (b c (inl refl)) (h (tagged_of m t c) (inl refl)))) (model_of (suc t) C (λ x k. b x (inr k)) (λ d i. h d (inr i)))

pub small_tagged : (m t : ℕ) (C : List Clause) → Each (Small m) (tagged_from m t C)
unfolding tagged_from tagged_of
small_tagged m t [] d i = absurd i
small_tagged m t (c ∷ C) d (inl e) = subst (λ (z : Tagged). Small m z) (sym e)
    (record { heads = λ x i. (unmask_out m c.head x i).0; bodies = λ x i. (unmask_out m c.body x i).0; nafs = λ x i. (unmask_out m c.naf x i).0 })
small_tagged m t (c ∷ C) d (inr i) = small_tagged m (suc t) C d i

module _ (m : ℕ) (C : List Clause) (below : Each (Below m) C) (I : ℕ) (h_i : I < 2 ^ m) where
  abbrev P : List Tagged
  P = tagged_from m 0 C

  pub stable_words : StableWord C I ↔ Stable P (bit I)
  stable_words = (
    λ h. record {
      model = to-reduct (bit I) (bit I) P (model_to m I I 0 C below h.model);
      least = λ J s g. let w = set_word m J (λ x t. bit-small I m x h_i (s x t)) in
          let g' : RModel P (bit I) (bit w.0) = subst (λ (z : Set ℕ). RModel P (bit I) z) (sym w.1) (of_reduct (bit I) J P g) in
          let i : bit w.0 ⊑ bit I = subst (λ (z : Set ℕ). z ⊑ bit I) (sym w.1) s in
          let e : w.0 ≡ I = h.minimal w.0 ((inside_bits w.0 I).1 i) (model_of m I w.0 0 C below g') in
          subst (λ (z : Set ℕ). bit I ⊑ z) (ap bit (sym e) ∙ w.1) (λ x t. t);
    },
    λ h. record {
      model = model_of m I I 0 C below (of_reduct (bit I) (bit I) P h.model);
      minimal = λ J s g. let k = h.least (bit J) ((inside_bits J I).0 s) (to-reduct (bit I) (bit J) P (model_to m I J 0 C below g)) in
          bits_ext J I ((inside_bits J I).0 s) k;
    },
  )

  -- the p-stable words are the literal parts of the canonical minimal words of the stage at rest
  pub theorem : (j : ℕ) → WSame (program m P) j → StableWord C I ↔ ((w : ℕ) × Answer m P j I w)
  theorem j same = let t = theorem_words m P (small_tagged m 0 C) j same I h_i in (λ h. t.0 (stable_words.0 h), λ a. stable_words.1 (t.1 a))
