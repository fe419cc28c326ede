-- A set in the first places of a list of fixed length. Assumes nothing.
use Prim.Native.Nat.{ℕ, suc, ◌+◌, ◌≤◌, ◌<◌}
use borrow.Author.Tests.{le-leb, lt-leb, lt-ltb, le-ltb, eqb-true, eqb-false}
use lib.Dec.{eqb}
use lib.ListN.{length, get_or, take, drop, set, length-append, length-take, length-drop, take-append-drop}
use lib.Seq.{take-suc, drop-cons, set_at, length-take-le, take-take, get_or-take, drop-length}
use mathlib.Core.Bool.{Bool, true, false}
use mathlib.Core.List.{List, [], ◌∷◌, ◌++◌, append_assoc}
use mathlib.Core.Path.{◌≡◌, sym, ap, ap₂, ◌∙◌}
use native.Mathlib.Decide.{dec_le, dec_lt}
use native.Mathlib.Numerals.{add-one}
use native.Mathlib.Omega.{arith}
use Rattle.sets.specs.Lists.{Rising}
use Rattle.rising.proofs.RisingSets.{insert_present, insert_absent, rank_within}
use Rattle.rising.specs.RisingSets.{insert_into, rank}
use Rattle.rising.specs.Slices.{size, overlay, opened, stands_at, Inserted}

-- ---- opening a place

module _ (xs : List ℕ) (count : ℕ) (room : count < length xs) where
  pub opened_none : xs ≡ opened xs count count
  unfolding opened
  opened_none = sym (ap (λ (l : List ℕ). take (suc count) xs ++ (l ++ drop (suc count) xs)) none ∙ take-append-drop (suc count) xs)
    where
      none : drop count (take count xs) ≡ []
      none = ap (λ (k : ℕ). drop k (take count xs)) (sym (length-take-le count xs (omega arith))) ∙ drop-length (take count xs)

  pub opened-length : (at : ℕ) → at ≤ count → length (opened xs at count) ≡ length xs
  unfolding opened
  opened-length at h = simp (length-append, length-drop, length-take) (omega arith)

  -- the member before p moves to p
  pub opened_one : (p : ℕ) → p + 1 ≤ count → set (opened xs (p + 1) count) (p + 1) (get_or (opened xs (p + 1) count) p 0) ≡ opened xs p count
  unfolding opened
  opened_one p h = rw (add-one p) (
      ap (λ (l : List ℕ). set (l ++ tail) (suc p) (get_or (take (suc (suc p)) xs ++ tail) p 0)) (take-suc xs (suc p) 0 (omega arith))
      ∙ ap (λ (l : List ℕ). set l (suc p) (get_or (take (suc (suc p)) xs ++ tail) p 0)) (append_assoc (take (suc p) xs) (get_or xs (suc p) 0 ∷ []) tail)
      ∙ set_at (take (suc p) xs) (get_or xs (suc p) 0) tail (get_or (take (suc (suc p)) xs ++ tail) p 0) (suc p) (length-take-le (suc p) xs (omega arith))
      ∙ ap (λ (v : ℕ). take (suc p) xs ++ (v ∷ tail)) value
      ∙ ap (λ (l : List ℕ). take (suc p) xs ++ (l ++ drop (suc count) xs)) (ap (λ (v : ℕ). v ∷ drop (suc p) (take count xs)) (sym (get_or-take count xs p 0 (omega arith)))
      ∙ sym (drop-cons (take count xs) p 0 (omega (arith, length-take-le count xs (omega arith))))))
    where
      tail : List ℕ
      tail = drop (suc p) (take count xs) ++ drop (suc count) xs

      value : get_or (take (suc (suc p)) xs ++ tail) p 0 ≡ get_or xs p 0
      value = lib.ListN.get_or-append (take (suc (suc p)) xs) tail 0 p (omega (arith, length-take-le (suc (suc p)) xs (omega arith))) ∙ get_or-take (suc (suc p)) xs p 0 (omega arith)

  -- and x fills the place
  pub opened_filled : (at x : ℕ) → at ≤ count → set (opened xs at count) at x ≡ (take at (take count xs) ++ (x ∷ drop at (take count xs))) ++ drop (suc count) xs
  unfolding opened
  opened_filled at x h =
      ap (λ (l : List ℕ). set (l ++ tail) at x) (take-suc xs at 0 (omega arith))
      ∙ ap (λ (l : List ℕ). set l at x) (append_assoc (take at xs) (get_or xs at 0 ∷ []) tail)
      ∙ set_at (take at xs) (get_or xs at 0) tail x at (length-take-le at xs (omega arith))
      ∙ sym (append_assoc (take at (take count xs)) (x ∷ drop at (take count xs)) (drop (suc count) xs) ∙ ap (λ (l : List ℕ). l ++ (x ∷ tail)) (take-take at count xs h))
    where
      tail : List ℕ
      tail = drop at (take count xs) ++ drop (suc count) xs

-- ---- the three ways in which an insertion ends

pub overlay_fits : (xs m : List ℕ) → length m ≤ length xs → overlay xs m ≡ m ++ drop (length m) xs
unfolding overlay
overlay_fits xs m h = rw (le-leb (length m) (length xs) h)

pub overlay-over : (xs m : List ℕ) → length xs < length m → overlay xs m ≡ xs
unfolding overlay
overlay-over xs m h = rw (lt-leb (length m) (length xs) h)

pub overlay-length : (xs m : List ℕ) → length (overlay xs m) ≡ length xs
overlay-length xs m = go (dec_le (length m) (length xs))
  where
    go : Dec (length m ≤ length xs) → length (overlay xs m) ≡ length xs
    go (yes h) = ap length (overlay_fits xs m h) ∙ simp (length-append, length-drop) (omega arith)
    go (no n) = ap length (overlay-over xs m (omega (arith, n)))

pub size_fits : (room : ℕ) (m : List ℕ) → length m ≤ room → size room m ≡ length m
unfolding size
size_fits room m h = omega arith

pub size-over : (room : ℕ) (m : List ℕ) → room < length m → size room m ≡ room + 1
unfolding size
size-over room m h = omega arith

pub stands_in : (xs : List ℕ) (count at x : ℕ) → at < count → eqb (get_or xs at 0) x ≡ stands_at xs count at x
unfolding stands_at
stands_in xs count at x h = rw (lt-ltb at count h)

pub stands_out : (xs : List ℕ) (count at x : ℕ) → count ≤ at → false ≡ stands_at xs count at x
unfolding stands_at
stands_out xs count at x h = rw (le-ltb at count h)

pub stands_yes : (xs : List ℕ) (count at x : ℕ) → stands_at xs count at x ≡ true → (at < count) × (get_or xs at 0 ≡ x)
stands_yes xs count at x e = go (dec_lt at count)
  where
    go : Dec (at < count) → (at < count) × (get_or xs at 0 ≡ x)
    go (yes h) = (h, eqb-true (get_or xs at 0) x (stands_in xs count at x h ∙ e))
    go (no n) = absurd (let z : ◌≡◌ {A = ℕ} 0 1 = cc (stands_out xs count at x (omega (arith, n))) in omega arith)

stands_no : (xs : List ℕ) (count at x : ℕ) → stands_at xs count at x ≡ false → at < count → get_or xs at 0 ≡ x → ⊥
stands_no xs count at x e h = eqb-false (get_or xs at 0) x (stands_in xs count at x h ∙ e)

module _ (xs : List ℕ) (count x at : ℕ) (pre : (count ≤ length xs) × Rising (take count xs)) (e : at ≡ rank x (take count xs)) where
  m : List ℕ
  m = insert_into x (take count xs)

  long : length (take count xs) ≡ count
  long = length-take-le count xs pre.0

  place_within : at ≤ count
  place_within = omega (arith, long, rank_within x (take count xs))

  pub inserted_present : (b : Bool) → b ≡ stands_at xs count at x → b ≡ true → Inserted xs xs (insert_into x (take count xs)) count
  inserted_present b s t =
      let k = stands_yes xs count at x (sym s ∙ t) in
      let h : at < count = k.0 in
      let q : insert_into x (take count xs) ≡ take count xs =
      insert_present x (take count xs) (omega (arith, long)) (ap (λ (i : ℕ). get_or (take count xs) i 0) (sym e) ∙ get_or-take count xs at 0 h ∙ k.1) in
      let l : length (insert_into x (take count xs)) ≡ count = ap length q ∙ long in
      record {
        count = sym (size_fits (length xs) (insert_into x (take count xs)) (omega (arith, pre.0)) ∙ l);
        exit = sym (overlay_fits xs (insert_into x (take count xs)) (omega (arith, pre.0)) ∙ ap₂ (λ (a : List ℕ) (b : ℕ). a ++ drop b xs) q l ∙ take-append-drop count xs);
      }

  module _ (b : Bool) (s : b ≡ stands_at xs count at x) (f : b ≡ false) where
    absent : insert_into x (take count xs) ≡ take at (take count xs) ++ (x ∷ drop at (take count xs))
    absent = rw e (insert_absent x (take count xs) (λ h k. stands_no xs count at x (sym s ∙ f) (omega (arith, long))
        (sym (get_or-take count xs at 0 (omega (arith, long))) ∙ ap (λ (i : ℕ). get_or (take count xs) i 0) e ∙ k)))

    pub one_more : length (insert_into x (take count xs)) ≡ count + 1
    one_more = ap length absent ∙ simp (length-append, length-drop, length-take) (omega (arith, place_within, long))

    pub inserted_over : count ≡ length xs → Inserted xs xs (insert_into x (take count xs)) (count + 1)
    inserted_over h = record {
      count = sym (size-over (length xs) (insert_into x (take count xs)) (omega (arith, one_more)) ∙ omega arith);
      exit = sym (overlay-over xs (insert_into x (take count xs)) (omega (arith, one_more)));
    }

    pub inserted_new : (ys : List ℕ) → (count ≡ length xs → ⊥) → ys ≡ opened xs at count → Inserted xs (set ys at x) (insert_into x (take count xs)) (count + 1)
    inserted_new ys n o =
        let h : count < length xs = omega (arith, pre.0, n) in
        record {
          count = sym (size_fits (length xs) (insert_into x (take count xs)) (omega (arith, one_more)) ∙ one_more);
          exit = ap (λ (l : List ℕ). set l at x) o ∙ opened_filled xs count h at x place_within
              ∙ ap₂ (λ (a : List ℕ) (b : ℕ). a ++ drop b xs) (sym absent) (sym (one_more ∙ add-one count))
              ∙ sym (overlay_fits xs (insert_into x (take count xs)) (omega (arith, one_more)));
        }

  pub place_there : (ys : List ℕ) → (count ≡ length xs → ⊥) → ys ≡ opened xs at count → at < length ys
  place_there ys n o = let h : count < length xs = omega (arith, pre.0, n) in omega (arith, ap length o, opened-length xs count h at place_within, place_within)
