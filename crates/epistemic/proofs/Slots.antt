-- What code computes of the layout: the slots of the stand-ins, and the masks of the rules.
use mathlib.Core.Path.{◌≡◌, refl, sym, ap, subst, ◌∙◌}
use mathlib.Core.Logic.{◌⊎◌, inl, inr, ⊎_elim}
use mathlib.Core.Bool.{Bool, true, false, not, cond, ◌||◌}
use mathlib.Core.List.{List, [], ◌∷◌, ◌++◌, map}
use Prim.Native.Nat.{ℕ, zero, suc, ◌+◌, ◌-◌, ◌*◌, ◌^◌, ◌≤◌, ◌<◌}
use native.Mathlib.Nat.{zero-add, suc-add}
use native.Mathlib.Decide.{ℕ_discrete, dec_le}
use native.Mathlib.Omega.{arith}
use lib.Dec.{T, eqb}
use lib.ListN.{length}
use lib.Bits.{bit_or, shifted_half, shifted_even}
use lib.Pow.{shl-shr}
use Rattle.epistemic.proofs.Decisions.{Atom_discrete}
use Rattle.epistemic.proofs.Masks.{unmask, unmask_in, unmask_out}
use Rattle.epistemic.proofs.Naming.{place, place_here, place_there, stands}
use Rattle.epistemic.specs.Transform.{Tagged, Atom, lit, know, stand, no_naf}
use Rattle.sets.proofs.Digits.{bit-small, bit_shr, bit_first, bit_suc, bit-or, bit_ext}
use Rattle.sets.proofs.Lists.{in-++, in-++-l, in-++-r, in_map, map_in}
use Rattle.sets.proofs.Masks.{mask_in, mask_out}
use Rattle.sets.proofs.Tests.{T_or, T_or_l, T_or_r, T_ext}
use Rattle.sets.specs.Lists.{◌∈◌}
use Rattle.sets.specs.Words.{mask, bit}
use mathlib.Core.List.{flat_map}

-- ---- slots

module _ {A : Type 0} (d : Discrete A) where
  -- past a list that does not hold a
  pub place_past : (a : A) (l k : List A) → (a ∈ l → ⊥) → place d a (l ++ k) ≡ length l + place d a k
  place_past a [] k f = sym (zero-add (place d a k))
  place_past a (b ∷ l) k f = place_there d a b (l ++ k) (λ e. f (inl e)) ∙ ap suc (place_past a l k (λ i. f (inr i))) ∙ sym (suc-add (length l) (place d a k))

module _ {A B : Type 0} (d_a : Discrete A) (d_b : Discrete B) (f : A → B) (inj : (x y : A) → f x ≡ f y → x ≡ y) where
  pub place_map : (x : A) (l : List A) (k : List B) → x ∈ l → place d_b (f x) (map f l ++ k) ≡ place d_a x l
  place_map x [] k i = absurd i
  place_map x (y ∷ l) k i = go (d_a x y) i (λ j. place_map x l k j)
    where
      go : Dec (x ≡ y) → (x ≡ y) ⊎ (x ∈ l) → (x ∈ l → place d_b (f x) (map f l ++ k) ≡ place d_a x l) → place d_b (f x) (f y ∷ (map f l ++ k)) ≡ place d_a x (y ∷ l)
      go (yes e) j ih = place_here d_b (f x) (f y) (map f l ++ k) (ap f e) ∙ sym (place_here d_a x y l e)
      go (no n) (inl e) ih = absurd (n e)
      go (no n) (inr j) ih = place_there d_b (f x) (f y) (map f l ++ k) (λ e. n (inj x y e)) ∙ ap suc (ih j) ∙ sym (place_there d_a x y l n)

stand_number : Atom → ℕ
stand_number (lit x) = x
stand_number (know x) = x
stand_number (stand c x) = x

stand_tag : Atom → ℕ
stand_tag (lit x) = 0
stand_tag (know x) = 0
stand_tag (stand c x) = c.tag

stand_inj : (c : Tagged) (x y : ℕ) → stand c x ≡ stand c y → x ≡ y
unfolding stand_number
stand_inj c x y e = ap stand_number e

-- a clause's own stand-ins come first, in the order of its head; another clause's come after them
pub slot_here : (c : Tagged) (P : List Tagged) → T (not (no_naf c.naf)) → (x : ℕ) → x ∈ c.head → place Atom_discrete (stand c x) (stands (c ∷ P)) ≡ place ℕ_discrete x c.head
unfolding stands flat_map
slot_here c P t x i = go (no_naf c.naf) t
  where
    go : (b : Bool) → T (not b) → place Atom_discrete (stand c x) (cond b [] (map (stand c) c.head) ++ stands P) ≡ place ℕ_discrete x c.head
    go true u = absurd u
    go false u = place_map ℕ_discrete Atom_discrete (stand c) (stand_inj c) x c.head (stands P) i

unfoldable pub slots_of : Tagged → ℕ
slots_of c = cond (no_naf c.naf) 0 (length c.head)

length-map : {A B : Type 0} (f : A → B) (l : List A) → length (map f l) ≡ length l
length-map f [] = refl
length-map f (x ∷ l) = ap suc (length-map f l)

pub slot_there : (c e : Tagged) (P : List Tagged) → (e.tag ≡ c.tag → ⊥) → (x : ℕ) → place Atom_discrete (stand e x) (stands (c ∷ P)) ≡ slots_of c + place Atom_discrete (stand e x) (stands P)
unfolding stands flat_map slots_of stand_tag
slot_there c e P n x = go (no_naf c.naf)
  where
    go : (b : Bool) → place Atom_discrete (stand e x) (cond b [] (map (stand c) c.head) ++ stands P) ≡ cond b 0 (length c.head) + place Atom_discrete (stand e x) (stands P)
    go true = sym (zero-add (place Atom_discrete (stand e x) (stands P)))
    go false = place_past Atom_discrete (stand e x) (map (stand c) c.head) (stands P) (λ i. n (ap stand_tag (map_in (stand c) (stand e x) c.head i).2))
        ∙ ap (λ k. k + place Atom_discrete (stand e x) (stands P)) (length-map (stand c) c.head)

-- ---- masks

pub mask-++ : (l k : List ℕ) → mask (l ++ k) ≡ bit_or (mask l) (mask k)
mask-++ l k = bit_ext (mask (l ++ k)) (bit_or (mask l) (mask k)) (λ i. T_ext (bit (mask (l ++ k)) i) (bit (mask l) i || bit (mask k) i)
    (λ t. ⊎_elim (λ j. T_or_l (bit (mask l) i) (bit (mask k) i) (mask_in l i j)) (λ j. T_or_r (bit (mask l) i) (bit (mask k) i) (mask_in k i j)) (in-++ i l k (mask_out (l ++ k) i t)))
    (λ t. mask_in (l ++ k) i (⊎_elim (λ u. in-++-l i l k (mask_out l i u)) (λ u. in-++-r i l k (mask_out k i u)) (T_or (bit (mask l) i) (bit (mask k) i) t)))
    ∙ sym (bit-or (mask l) (mask k) i))

bit_under : (w s i : ℕ) → i < s → bit (w * 2 ^ s) i ≡ false
bit_under w zero i h = absurd (omega arith)
bit_under w (suc s) zero h = bit_first (w * 2 ^ suc s) ∙ ap (λ x. eqb x 1) (shifted_even w s)
bit_under w (suc s) (suc i) h = bit_suc (w * 2 ^ suc s) i ∙ ap (λ x. bit x i) (shifted_half w s) ∙ bit_under w s i (omega arith)

-- the mask of a word's bits moved up by s places is the word shifted
pub mask_shift : (s m w : ℕ) → w < 2 ^ m → mask (map (λ x. s + x) (unmask m w)) ≡ w * 2 ^ s
mask_shift s m w h = bit_ext (mask (map (λ x. s + x) (unmask m w))) (w * 2 ^ s) (λ i. T_ext (bit (mask (map (λ x. s + x) (unmask m w))) i) (bit (w * 2 ^ s) i) (to i) (of i))
  where
    up : (x : ℕ) → bit (w * 2 ^ s) (s + x) ≡ bit w x
    up x = sym (bit_shr (w * 2 ^ s) s x) ∙ ap (λ z. bit z x) (shl-shr w s)

    to : (i : ℕ) → T (bit (mask (map (λ x. s + x) (unmask m w))) i) → T (bit (w * 2 ^ s) i)
    to i t = let r = map_in (λ x. s + x) i (unmask m w) (mask_out (map (λ x. s + x) (unmask m w)) i t) in
        subst (λ z. T (bit (w * 2 ^ s) z)) (sym r.2) (subst T (sym (up r.0)) (unmask_out m w r.0 r.1).1)

    of : (i : ℕ) → T (bit (w * 2 ^ s) i) → T (bit (mask (map (λ x. s + x) (unmask m w))) i)
    of i t = go (dec_le s i)
      where
        go : Dec (s ≤ i) → T (bit (mask (map (λ x. s + x) (unmask m w))) i)
        go (yes k) =
            let e : i ≡ s + (i - s) = omega arith in
            let u : T (bit w (i - s)) = subst T (up (i - s)) (subst (λ z. T (bit (w * 2 ^ s) z)) e t) in
            subst (λ z. T (bit (mask (map (λ x. s + x) (unmask m w))) z)) (sym e)
            (mask_in (map (λ x. s + x) (unmask m w)) (s + (i - s)) (in_map (λ x. s + x) (i - s) (unmask m w) (unmask_in m w (i - s) (bit-small w m (i - s) h u) u)))
        go (no n) = absurd (subst T (bit_under w s i (omega (arith, n))) t)
