-- The members of a list that pass a test, copied, and the minimal ones of these: laws of the loops. Assumes nothing.
use Prim.Native.Nat.{ℕ, suc, ◌+◌, ◌≤◌, ◌<◌}
use lib.ListN.{length-take, length, get_or, take, drop, set, length-set, drop_of_length-le}
use lib.Seq.{drop-cons, length-take-le, get_or-take, take_all, take-suc, take-suc-set}
use mathlib.Core.Bool.{Bool, true, false, cond}
use mathlib.Core.List.{List, [], ◌∷◌, ◌++◌, append-nil}
use mathlib.Core.Path.{◌≡◌, refl, sym, ap, ap₂, ◌∙◌, subst}
use native.Mathlib.Numerals.{add-one}
use native.Mathlib.Omega.{arith}
use Rattle.sets.proofs.Rising.{sift-rising}
use Rattle.sets.specs.Lists.{sift, Rising}
use Rattle.sets.proofs.Lists.{sift-append}
use Rattle.rising.specs.Slices.{Prefix}
use Rattle.minimal.specs.Minimal.{least_in, minimals}

-- ---- a list, one member more

pub sift_one : (t : ℕ → Bool) (x : ℕ) (l : List ℕ) → sift t (x ∷ l) ≡ cond (t x) (x ∷ sift t l) (sift t l)
unfolding sift
sift_one t x l = refl

pub sift_none : (t : ℕ → Bool) → sift t [] ≡ []
unfolding sift
sift_none t = refl

pub sift_short : (t : ℕ → Bool) (l : List ℕ) → length (sift t l) ≤ length l
unfolding sift
sift_short t [] = omega arith
sift_short t (x ∷ l) = go (t x) (sift_short t l)
  where
    go : (b : Bool) → length (sift t l) ≤ length l → length (cond b (x ∷ sift t l) (sift t l)) ≤ suc (length l)
    go true h = omega arith
    go false h = omega arith

pub one_more : (l : List ℕ) (count p : ℕ) → count ≤ length l → p < count → drop p (take count l) ≡ get_or l p 0 ∷ drop (p + 1) (take count l)
one_more l count p h k = drop-cons (take count l) p 0 (omega (arith, length-take-le count l h))
    ∙ ap₂ (λ (x : ℕ) (i : ℕ). x ∷ drop i (take count l)) (get_or-take count l p 0 k) (sym (add-one p))

pub no_more : (l : List ℕ) (count p : ℕ) → count ≤ length l → count ≤ p → drop p (take count l) ≡ []
no_more l count p h k = drop_of_length-le (take count l) {i = p} (omega (arith, length-take-le count l h))

-- ---- the members of a list that pass a test, copied: the n kept are those that pass of the first p

pub record Sifting (t : ℕ → Bool) (l xs ys : List ℕ) (n p : ℕ) : Type 0 where
  pub room : length l ≤ length ys
  pub long : length ys ≡ length xs
  pub low : n ≤ p
  pub within : p ≤ length l
  pub kept : take n ys ≡ sift t (take p l)

module _ (t : ℕ → Bool) (l xs : List ℕ) where
  pub sifting_start : length l ≤ length xs → Sifting t l xs xs 0 0
  sifting_start h = record { room = h; long = refl; low = omega arith; within = omega arith; kept = sym (sift_none t) }

  module _ (ys : List ℕ) (n p : ℕ) (s : Sifting t l xs ys n p) where
    pub sifting_fits : n ≤ length ys
    sifting_fits = omega (arith, s.low, s.room, s.within)

    further : p < length l → take n ys ++ cond (t (get_or l p 0)) (get_or l p 0 ∷ []) [] ≡ sift t (take (p + 1) l)
    unfolding sift
    further h = ap (λ (k : List ℕ). k ++ sift t (get_or l p 0 ∷ [])) s.kept ∙ sym (sift-append t (take p l) (get_or l p 0 ∷ []))
        ∙ ap (sift t) (sym (ap (λ (i : ℕ). take i l) (add-one p) ∙ take-suc l p 0 h))

    pub sifting_skip : p < length l → t (get_or l p 0) ≡ false → Sifting t l xs ys n (p + 1)
    sifting_skip h e = record { room = s.room; long = s.long; low = omega (arith, s.low); within = omega arith; kept = sym (append-nil (take n ys)) ∙ rw e at (further h) }

    pub sifting_keep : p < length l → t (get_or l p 0) ≡ true → Sifting t l xs (set ys n (get_or l p 0)) (n + 1) (p + 1)
    sifting_keep h e = record {
      room = omega (arith, length-set ys n (get_or l p 0), s.room);
      long = length-set ys n (get_or l p 0) ∙ s.long;
      low = omega (arith, s.low);
      within = omega arith;
      kept = ap (λ (i : ℕ). take i (set ys n (get_or l p 0))) (add-one n) ∙ take-suc-set ys n (get_or l p 0) (omega (arith, s.low, s.room)) ∙ rw e at (further h);
    }

    pub sifting_done : length l ≤ p → Prefix (sift t l) ys n
    sifting_done h =
        let w : take n ys ≡ sift t l = s.kept ∙ ap (sift t) (take_all p l h) in
        record { count = sym (length-take-le n ys sifting_fits) ∙ ap length w; words = w }

-- ---- what is kept of the first m words of a in as long a list as b

module _ (t : ℕ → Bool) (m k : ℕ) (a kept : List ℕ) (p : Prefix (sift t (take m a)) kept k) where
  fewer : k ≤ m
  fewer = omega (arith, p.count, sift_short t (take m a), length-take m a)

  pub kept_within : (b : List ℕ) → m ≤ length b → length kept ≡ length b → k ≤ length kept
  kept_within b h e = omega (arith, fewer)

  pub kept_room : m ≤ length a → length (take k kept) ≤ length a
  kept_room h = omega (arith, fewer, length-take k kept)

  pub kept-rising : Rising (take m a) → Rising (take k kept)
  kept-rising r = subst Rising (sym p.words) (sift-rising t (take m a) r)

  -- the minimal ones of these
  pub kept-minimal : (out : List ℕ) (n : ℕ) → Prefix (sift (least_in (take k kept)) (take k kept)) out n → Prefix (minimals (sift t (take m a))) out n
  unfolding minimals
  kept-minimal out n q = subst (λ (l : List ℕ). Prefix (sift (least_in l) l) out n) p.words q

pub prefix_room : (m : ℕ) (a b : List ℕ) → m ≤ length b → length (take m a) ≤ length b
prefix_room m a b h = omega (arith, length-take m a)
