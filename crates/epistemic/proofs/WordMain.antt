-- The whole theorem on words: literals at bits 0..m-1, K at m..2m-1, stand-ins at 2m...
use mathlib.Core.Path.{◌≡◌, refl, sym, ap, subst, ◌∙◌, fun_ext}
use mathlib.Core.Logic.{inl, inr, ◌↔◌}
use mathlib.Core.Bool.{Bool, true, false, not, cond, ◌&&◌}
use mathlib.Core.List.{List, [], ◌∷◌, map}
use Prim.Native.Nat.{ℕ, suc, ◌+◌, ◌/◌, ◌%◌, ◌^◌, ◌<◌}
use native.Mathlib.Nat.{mod-lt}
use native.Mathlib.Decide.{ℕ_discrete}
use native.Mathlib.Omega.{arith}
use lib.Dec.{T, eqb}
use lib.Pow.{pow_pos}
use lib.Bits.{bit_and}
use lib.ListN.{length}
use Rattle.epistemic.proofs.Decisions.{Atom_discrete}
use Rattle.epistemic.proofs.Fixpoint.{atoms, heads_in}
use Rattle.epistemic.proofs.Naming.{stands, name, vocabulary, Small, good_to, kappa-vocabulary, names_apart, good_names, name_lt}
use Rattle.epistemic.proofs.Rename.{rename, pull, image, pull_in, pull_V, pull_out, image_in, image_at, minimal_pull, minimal_image}
use Rattle.epistemic.proofs.Shrinking.{theorem_kappa}
use Rattle.epistemic.proofs.Stages.{stages_end, fixpoint-minimal, set_eq, holds→All, All→holds}
use Rattle.epistemic.proofs.Words.{inside-mask, meets→Any, Any→meets, wstage, in_wstage, stage_word}
use Rattle.epistemic.specs.Positive.{Rule, Sat, Model, Minimal, stage, Same, MinimalIn}
use Rattle.epistemic.specs.Transform.{Tagged, Stable, Atom, lit, know, kappa, Canonical, lits}
use Rattle.sets.proofs.Digits.{bit-small, bit_shr, bit_low, bit_ext, inside→⊑, ⊑→inside}
use Rattle.sets.proofs.Lists.{map_in, below_in, length_below}
use Rattle.sets.proofs.Tests.{T_and, T_and_l, T_and_r, T_ext}
use Rattle.sets.specs.Lists.{◌∈◌, Each, below}
use Rattle.sets.specs.Words.{mask, Set, ◌⊑◌, bit, inside}

-- ---- a word is a model: the test that code runs

-- a rule holds in w: some bit of its body is not in w, or some bit of its head is
unfoldable pub wsat : ℕ → Rule ℕ → Bool
wsat w r = cond (inside (mask r.body) w) (not (eqb (bit_and (mask r.head) w) 0)) true

unfoldable pub wmodel : ℕ → List (Rule ℕ) → Bool
wmodel w [] = true
wmodel w (r ∷ Q) = wsat w r && wmodel w Q

wsat→Sat : (w : ℕ) (r : Rule ℕ) → T (wsat w r) → Sat (bit w) r
unfolding wsat
wsat→Sat w r t all = meets→Any w r.head (go (inside (mask r.body) w) (subst T (sym (inside-mask w r.body)) (All→holds (bit w) r.body all)) t)
  where
    go : (b : Bool) → T b → T (cond b (not (eqb (bit_and (mask r.head) w) 0)) true) → T (not (eqb (bit_and (mask r.head) w) 0))
    go true u v = v
    go false u v = absurd u

Sat→wsat : (w : ℕ) (r : Rule ℕ) → Sat (bit w) r → T (wsat w r)
unfolding wsat
Sat→wsat w r h = go (inside (mask r.body) w) (λ u. Any→meets w r.head (h (holds→All (bit w) r.body (subst T (inside-mask w r.body) u))))
  where
    go : (b : Bool) → (T b → T (not (eqb (bit_and (mask r.head) w) 0))) → T (cond b (not (eqb (bit_and (mask r.head) w) 0)) true)
    go true f = f tt
    go false f = tt

pub wmodel→Model : (w : ℕ) (Q : List (Rule ℕ)) → T (wmodel w Q) → Model (bit w) Q
unfolding wmodel
wmodel→Model w [] t r i = absurd i
wmodel→Model w (q ∷ Q) t r (inl e) = subst (λ (z : Rule ℕ). Sat (bit w) z) (sym e) (wsat→Sat w q (T_and_l (wsat w q) (wmodel w Q) t))
wmodel→Model w (q ∷ Q) t r (inr i) = wmodel→Model w Q (T_and_r (wsat w q) (wmodel w Q) t) r i

pub Model→wmodel : (w : ℕ) (Q : List (Rule ℕ)) → Model (bit w) Q → T (wmodel w Q)
unfolding wmodel
Model→wmodel w [] h = tt
Model→wmodel w (q ∷ Q) h = T_and (wsat w q) (wmodel w Q) (Sat→wsat w q (h q (inl refl))) (Model→wmodel w Q (λ r i. h r (inr i)))

-- ---- minimal words

-- the stages j and j + 1 have the same words
abbrev pub WSame : List (Rule ℕ) → ℕ → Type 0
WSame Q j = (w : ℕ) → (w ∈ wstage Q j) ↔ (w ∈ wstage Q (suc j))

-- where every head lies below W, the stages have come to rest at stage W + 1
pub words_rest : (Q : List (Rule ℕ)) (W : ℕ) → Each (λ (r : Rule ℕ). Each (λ x. x < W) r.head) Q → (k : ℕ) → W < k → WSame Q k
unfolding Same
words_rest Q W small k h w =
    let e : Same ℕ_discrete Q k (suc k) = stages_end ℕ_discrete Q (below W) (λ r i x j. below_in W x (small r i x j)) k (omega (arith, length_below W)) in
    (λ i. (in_wstage Q (suc k) w).1 ((e (bit w)).0 ((in_wstage Q k w).0 i)), λ i. (in_wstage Q k w).1 ((e (bit w)).1 ((in_wstage Q (suc k) w).0 i)))

pub record WMinimal (Q : List (Rule ℕ)) (j w : ℕ) : Type 0 where
  pub member : w ∈ wstage Q j
  pub model : T (wmodel w Q)
  pub least : (v : ℕ) → v ∈ wstage Q j → T (wmodel v Q) → T (inside v w) → v ≡ w

module _ (Q : List (Rule ℕ)) (j : ℕ) (same : WSame Q j) where
  same_sets : Same ℕ_discrete Q j (suc j)
  unfolding Same
  same_sets J = (
    λ m. let s = stage_word Q j J m in subst (λ (z : Set ℕ). z ∈ stage ℕ_discrete Q (suc j)) (sym s.2) ((in_wstage Q (suc j) s.0).0 ((same s.0).0 s.1)),
    λ m. let s = stage_word Q (suc j) J m in subst (λ (z : Set ℕ). z ∈ stage ℕ_discrete Q j) (sym s.2) ((in_wstage Q j s.0).0 ((same s.0).1 s.1)),
  )

  fix : (M : Set ℕ) → Minimal Q M ↔ MinimalIn ℕ_discrete Q j M
  fix = fixpoint-minimal ℕ_discrete Q (atoms Q) (heads_in Q) j same_sets

  -- a minimal model is a word of the stage, minimal there
  pub word_of : (M : Set ℕ) → Minimal Q M → (w : ℕ) × WMinimal Q j w × (M ≡ bit w)
  word_of M h =
      let g = (fix M).0 h in
      let s = stage_word Q j M g.member in
      let e = s.2 in (
        s.0,
        record {
          member = s.1;
          model = Model→wmodel s.0 Q (subst (λ (z : Set ℕ). Model z Q) e g.model);
          least = λ v i t u. bit_ext v s.0 (λ k. ap (λ (z : Set ℕ). z k) (set_eq (bit v) (bit s.0) (inside→⊑ v s.0 u)
              (subst (λ (z : Set ℕ). z ⊑ bit v) e (g.least (bit v) ((in_wstage Q j v).0 i) (wmodel→Model v Q t) (subst (λ (z : Set ℕ). bit v ⊑ z) (sym e) (inside→⊑ v s.0 u))))));
        },
        e,
      )

  pub minimal_word : (w : ℕ) → WMinimal Q j w → Minimal Q (bit w)
  minimal_word w h = (fix (bit w)).1 (record {
    member = (in_wstage Q j w).0 h.member;
    model = wmodel→Model w Q h.model;
    least = λ J i g s. let u = stage_word Q j J i in
        let v : u.0 ≡ w = h.least u.0 u.1 (Model→wmodel u.0 Q (subst (λ (z : Set ℕ). Model z Q) u.2 g)) (⊑→inside u.0 w (subst (λ (z : Set ℕ). z ⊑ bit w) u.2 s)) in
        subst (λ (z : Set ℕ). bit w ⊑ z) (sym (u.2 ∙ ap bit v)) (λ x t. t);
  })

-- ---- the theorem

-- the transform over bit positions
unfoldable pub program : ℕ → List Tagged → List (Rule ℕ)
program m P = map (rename (name m (stands P))) (kappa P)

-- w is a canonical minimal word of the stage j, and I is its literal part
pub record Answer (m : ℕ) (P : List Tagged) (j I w : ℕ) : Type 0 where
  pub minimal : WMinimal (program m P) j w
  pub canonical : T (inside (w / 2 ^ m % 2 ^ m) (w % 2 ^ m))
  pub literals : w % 2 ^ m ≡ I

module _ (m : ℕ) (P : List Tagged) (small : Each (Small m) P) where
  -- its heads lie below the number of names
  pub program_heads : Each (λ (r : Rule ℕ). Each (λ x. x < m + m + length (stands P)) r.head) (program m P)
  unfolding program
  program_heads r i x k =
      let s = map_in (rename (name m (stands P))) r (kappa P) i in
      let u = map_in (name m (stands P)) x s.0.head (subst (λ (z : Rule ℕ). x ∈ z.head) s.2 k) in
      let g = good_names m P small u.0 (kappa-vocabulary m P small s.0 s.1 u.0 (inl u.1)) in
      subst (λ z. z < m + m + length (stands P)) (sym u.2) (name_lt m (stands P) u.0 g)

  -- the stages have come to rest one round after as many rounds as there are names
  pub rest : (k : ℕ) → m + m + length (stands P) < k → WSame (program m P) k
  rest k h = words_rest (program m P) (m + m + length (stands P)) program_heads k h

module _ (m : ℕ) (P : List Tagged) (small : Each (Small m) P) (j : ℕ) (same : WSame (program m P) j) where
  Vo : List Atom
  Vo = vocabulary m (stands P)

  ν : Atom → ℕ
  ν = name m (stands P)

  lit_in : (x : ℕ) → x < m → lit x ∈ Vo
  unfolding Vo
  lit_in x h = good_to m (stands P) (lit x) h

  know_in : (x : ℕ) → x < m → know x ∈ Vo
  unfolding Vo
  know_in x h = good_to m (stands P) (know x) h

  small_mod : (w : ℕ) → w % 2 ^ m < 2 ^ m
  small_mod w = mod-lt w (pow_pos m)

  low : (w i : ℕ) → T (bit (w % 2 ^ m) i) → (i < m) × T (bit w i)
  low w i t = let h = bit-small (w % 2 ^ m) m i (small_mod w) t in (h, subst T (bit_low w m i h) t)

  to_low : (w i : ℕ) → i < m → T (bit w i) → T (bit (w % 2 ^ m) i)
  to_low w i h t = subst T (sym (bit_low w m i h)) t

  forth : (I : ℕ) → I < 2 ^ m → Stable P (bit I) → (w : ℕ) × Answer m P j I w
  unfolding program Vo ν name
  forth I h_i st = (
    w,
    record {
      minimal = s.1;
      canonical = ⊑→inside (w / 2 ^ m % 2 ^ m) (w % 2 ^ m) (λ i t.
          let h = low (w / 2 ^ m) i t in
          to_low w i h.0 (to_w (lit i) (lit_in i h.0) (r.2 i (of_w (know i) (know_in i h.0) (subst T (bit_shr w m i) h.1)))));
      literals = bit_ext (w % 2 ^ m) I (λ i. T_ext (bit (w % 2 ^ m) i) (bit I i)
          (λ t. let h = low w i t in subst (λ (z : Set ℕ). T (z i)) r.3 (of_w (lit i) (lit_in i h.0) h.1))
          (λ t. let h = bit-small I m i h_i t in to_low w i h (to_w (lit i) (lit_in i h) (subst (λ (z : Set ℕ). T (z i)) (sym r.3) t))));
    },
  )
    where
      r : (M : Set Atom) × Minimal (kappa P) M × Canonical M × (lits M ≡ bit I)
      r = (theorem_kappa P (bit I)).0 st

      s : (w : ℕ) × WMinimal (program m P) j w × (image Atom_discrete ℕ_discrete ν Vo r.0 ≡ bit w)
      s = word_of (program m P) j same (image Atom_discrete ℕ_discrete ν Vo r.0)
          (minimal_image Atom_discrete ℕ_discrete ν Vo (names_apart m P small) (kappa P) (kappa-vocabulary m P small) r.0 r.1)

      w : ℕ
      w = s.0

      to_w : (a : Atom) → a ∈ Vo → T (r.0 a) → T (bit w (ν a))
      to_w a i t = subst (λ (z : Set ℕ). T (z (ν a))) s.2 (image_in Atom_discrete ℕ_discrete ν Vo r.0 a i t)

      of_w : (a : Atom) → a ∈ Vo → T (bit w (ν a)) → T (r.0 a)
      of_w a i t = image_at Atom_discrete ℕ_discrete ν Vo (names_apart m P small) (kappa P) (kappa-vocabulary m P small) r.0 a i (subst (λ (z : Set ℕ). T (z (ν a))) (sym s.2) t)

  back : (I w : ℕ) → Answer m P j I w → Stable P (bit I)
  unfolding program Vo ν name
  back I w h = (theorem_kappa P (bit I)).1 (
    M,
    min,
    can,
    fun_ext (λ x. T_ext (M (lit x)) (bit I x)
        (λ t. subst (λ z. T (bit z x)) h.literals (to_low w x (good_names m P small (lit x) (pull_V Atom_discrete ℕ_discrete ν Vo (bit w) (lit x) t))
        (pull_out Atom_discrete ℕ_discrete ν Vo (bit w) (lit x) t)))
        (λ t. let k = low w x (subst (λ z. T (bit z x)) (sym h.literals) t) in pull_in Atom_discrete ℕ_discrete ν Vo (bit w) (lit x) (lit_in x k.0) k.1)),
  )
    where
      M : Set Atom
      M = pull Atom_discrete ℕ_discrete ν Vo (bit w)

      min : Minimal (kappa P) M
      min = minimal_pull Atom_discrete ℕ_discrete ν Vo (names_apart m P small) (kappa P) (kappa-vocabulary m P small) (bit w) (minimal_word (program m P) j same w h.minimal)

      can : Canonical M
      can x t =
          let k : x < m = good_names m P small (know x) (pull_V Atom_discrete ℕ_discrete ν Vo (bit w) (know x) t) in
          let u = inside→⊑ (w / 2 ^ m % 2 ^ m) (w % 2 ^ m) h.canonical x
          (to_low (w / 2 ^ m) x k (subst T (sym (bit_shr w m x)) (pull_out Atom_discrete ℕ_discrete ν Vo (bit w) (know x) t))) in
          pull_in Atom_discrete ℕ_discrete ν Vo (bit w) (lit x) (lit_in x k) (low w x u).1

  pub theorem_words : (I : ℕ) → I < 2 ^ m → Stable P (bit I) ↔ ((w : ℕ) × Answer m P j I w)
  theorem_words I h_i = (forth I h_i, λ s. back I s.0 s.1)
