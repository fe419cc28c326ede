-- In a rising list a word is minimal among all words exactly where it is minimal among the minimal ones that stand before it. Assumes nothing.
use Prim.Native.Nat.{ℕ, zero, suc, ◌+◌, ◌<◌}
use borrow.Author.Tests.{not-true, eqb-true, eqb-false, eq-eqb, ne_eqb}
use lib.Bits.{bit_and}
use lib.Dec.{eqb}
use lib.ListN.{length, get_or, take, drop, set, take-append-drop}
use mathlib.Core.Bool.{Bool, true, false, not}
use mathlib.Core.List.{List, [], ◌∷◌}
use mathlib.Core.Logic.{inl, inr, ⊎_elim}
use mathlib.Core.Path.{◌≡◌, sym, ap, ◌∙◌, subst}
use native.Mathlib.Nat.{le_of_suc-le-suc}
use native.Mathlib.Omega.{arith}
use Rattle.sets.proofs.Digits.{inside_digits, inside_le}
use Rattle.sets.proofs.Lists.{in-++-l, in_some, none_each, sift_in, sift_out, some_in, some_none}
use Rattle.sets.proofs.Tests.{dec, and_is_true, both_true}
use Rattle.sets.specs.Lists.{◌∈◌, Rising, Some, any_of, sift}
use Rattle.sets.specs.Words.{Inside, inside}
use Rattle.minimal.specs.Minimal.{least_in, proper_in}
use Rattle.minimal.proofs.Selecting.{Sifting, sifting_keep, sifting_skip}

-- ---- proper subsets
proper_is : (w v : ℕ) → proper_in w v ≡ true → Inside v w × (v < w)
proper_is w v t =
    let b = both_true (inside v w) (not (eqb v w)) t in
    let i : Inside v w = eqb-true (bit_and v w) v b.0 in
    let n = eqb-false v w (not-true (eqb v w) b.1) in
    (i, omega (arith, n, inside_le v w i))

proper_trans : (w v u : ℕ) → proper_in w v ≡ true → proper_in v u ≡ true → proper_in w u ≡ true
proper_trans w v u s t =
    let p = proper_is w v s in
    let q = proper_is v u t in
    let i : Inside u w = (inside_digits u w).1 (λ k. omega (arith, (inside_digits u v).0 q.0 k, (inside_digits v w).0 p.0 k)) in
    and_is_true (inside u w) (not (eqb u w)) (eq-eqb (bit_and u w) u i) (ap not (ne_eqb u w (omega (arith, p.1, q.1))))

-- ---- the members below a member of a rising list stand before it
before : (l : List ℕ) (p u : ℕ) → Rising l → p < length l → u ∈ l → u < get_or l p 0 → u ∈ take p l
unfolding Rising
before [] p u r h m b = absurd m
before (x ∷ l) zero u r h (inl e) b = absurd (omega arith)
before (x ∷ l) zero u r h (inr m) b = absurd (omega (arith, r.0 u m))
before (x ∷ l) (suc p) u r h (inl e) b = inl e
before (x ∷ l) (suc p) u r h (inr m) b = inr (before l p u r.1 (le_of_suc-le-suc h) m b)

module _ (l : List ℕ) where
  taken : (p u : ℕ) → u ∈ take p l → u ∈ l
  taken p u m = subst (λ (k : List ℕ). u ∈ k) (take-append-drop p l) (in-++-l u (take p l) (drop p l) m)

  -- a word with a proper subset in the list has a minimal one there
  smallest : (n w v : ℕ) → v < n → v ∈ l → proper_in w v ≡ true → Some (λ u. proper_in w u ≡ true) (sift (least_in l) l)
  smallest zero w v h m t = absurd (omega arith)
  smallest (suc n) w v h m t = ⊎_elim
      (λ s. let u = some_in (proper_in v) l s in smallest n w u.0 (omega (arith, h, (proper_is v u.0 u.2).1)) u.1 (proper_trans w v u.0 t u.2))
      (λ f. (v, sift_in (least_in l) l v m (ap not f), t))
      (dec (any_of (proper_in v) l))

  least_before : (p : ℕ) → Rising l → p < length l → least_in (sift (least_in l) (take p l)) (get_or l p 0) ≡ least_in l (get_or l p 0)
  least_before p r h = let w = get_or l p 0 in let kept = sift (least_in l) (take p l) in ⊎_elim
      (λ s.
      let v = some_in (proper_in w) l s in
      let u = smallest (suc v.0) w v.0 (omega arith) v.1 v.2 in
      let k = sift_out (least_in l) l u.0 u.1 in
      let b = before l p u.0 r h k.0 (proper_is w u.0 u.2).1 in
      ap not (in_some (proper_in w) kept u.0 (sift_in (least_in l) (take p l) u.0 b k.1) u.2 ∙ sym s))
      (λ f. ap not (some_none (proper_in w) kept (λ u m. none_each (proper_in w) l f u (taken p u (sift_out (least_in l) (take p l) u m).0)) ∙ sym f))
      (dec (any_of (proper_in w) l))

  -- ---- so a word is compared with those kept so far
  module _ (xs ys : List ℕ) (n p : ℕ) (r : Bool) (s : Sifting (least_in l) l xs ys n p) (up : Rising l) (h : p < length l) (e : r ≡ least_in (take n ys) (get_or l p 0)) where
    told : r ≡ least_in l (get_or l p 0)
    told = e ∙ ap (λ (k : List ℕ). least_in k (get_or l p 0)) s.kept ∙ least_before p up h

    pub least-keep : r ≡ true → Sifting (least_in l) l xs (set ys n (get_or l p 0)) (n + 1) (p + 1)
    least-keep t = sifting_keep (least_in l) l xs ys n p s h (sym told ∙ t)

    pub least_skip : r ≡ false → Sifting (least_in l) l xs ys n (p + 1)
    least_skip f = sifting_skip (least_in l) l xs ys n p s h (sym told ∙ f)
