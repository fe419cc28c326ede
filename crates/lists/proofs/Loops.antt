-- Loops over bytes, pieces and lines: what each keeps, and how it goes on and ends. Assumes nothing.
use mathlib.Core.Path.{◌≡◌, refl, sym, ap, ap₂, ◌∙◌, subst}
use mathlib.Core.Bool.{Bool, true, false, cond, ◌&&◌, ◌||◌, false≢true}
use mathlib.Core.List.{List, [], ◌∷◌}
use Prim.Native.Nat.{ℕ, suc, ◌+◌, ◌≤◌, ◌<◌, max}
use native.Mathlib.Nat.{add-zero}
use native.Mathlib.Numerals.{add-one}
use native.Mathlib.Omega.{arith}
use borrow.Author.Rules.{rules}
use lib.Dec.{eqb}
use lib.ListN.{length, get_or, drop, drop_of_length-le}
use lib.Seq.{drop-cons}
use lib.Pointwise.{pointwise}
use Rattle.std.specs.List.{count_by}
use Rattle.std.proofs.lemmas.List.Sums.{count_by-le-length}
use Rattle.std.proofs.lemmas.List.Recursion.{is_count_by}
use borrow.Author.Tests.{eqb-true, eq-eqb, ne_eqb}
use Rattle.sets.specs.Lists.{every, any_of, onward, tabulate}
use Rattle.sets.proofs.Tests.{both_true, via, via_true, via_false}
use Rattle.sets.proofs.Lists.{onward_start, onward_step, onward_done, kept_start, kept_not, kept_more, kept_done, lacks_start, lacks_not, lacks_more, lacks_done}
use Rattle.lists.specs.Bytes.{pieces, left, ended, index, end_of, count, same, distinct, EndsAt, CountOf}
use Rattle.lists.proofs.Pieces.{part, left_start, left_step, left_done, line_step, line_done, end_ge}

-- ---- loops over the pieces
module _ (c : ℕ) (xs : List ℕ) (p : List ℕ → Bool) where
  -- none of the pieces below at passes
  pub record Passed (at : ℕ) : Type 0 where
    pub rest : any_of p (left c xs at) ≡ any_of p (pieces c xs)

  pub start : Passed 0
  start = record { rest = ap (any_of p) (left_start c xs) }

  step : (at e : ℕ) → at ≤ length xs → e ≡ end_of c xs at → any_of p (left c xs at) ≡ (p (part xs at e) || any_of p (left c xs (e + 1)))
  unfolding any_of
  step at e h q = rw q (ap (any_of p) (left_step c xs at h))

  pub hit : (at e : ℕ) → Passed at → at ≤ length xs → e ≡ end_of c xs at → p (part xs at e) ≡ true → true ≡ any_of p (pieces c xs)
  hit at e s h q t = rw t at (sym (step at e h q)) ∙ s.rest

  pub miss : (at e : ℕ) → Passed at → at ≤ length xs → e ≡ end_of c xs at → p (part xs at e) ≡ false → Passed (e + 1)
  miss at e s h q t = record { rest = rw t at (sym (step at e h q)) ∙ s.rest }

  pub done : (at : ℕ) → Passed at → length xs < at → false ≡ any_of p (pieces c xs)
  unfolding any_of
  done at s h = sym (ap (any_of p) (left_done c xs at h)) ∙ s.rest

-- ---- loops over the lines
module _ (c : ℕ) (xs : List ℕ) (p : List ℕ → Bool) (from : ℕ) where
  -- none of the lines between from and at passes
  pub record LinesPassed (at : ℕ) : Type 0 where
    pub rest : any_of p (ended c (drop at xs)) ≡ any_of p (ended c (drop from xs))

  pub line_start : LinesPassed from
  line_start = record { rest = refl }

  line_next : (at e : ℕ) → e ≡ end_of c xs at → e < length xs → any_of p (ended c (drop at xs)) ≡ (p (part xs at e) || any_of p (ended c (drop (e + 1) xs)))
  unfolding any_of
  line_next at e q h = rw q (ap (any_of p) (line_step c xs at (rw q at h)))

  pub line_hit : (at e : ℕ) → LinesPassed at → e ≡ end_of c xs at → e < length xs → p (part xs at e) ≡ true → true ≡ any_of p (ended c (drop from xs))
  line_hit at e s q h t = rw t at (sym (line_next at e q h)) ∙ s.rest

  pub line_miss : (at e : ℕ) → LinesPassed at → e ≡ end_of c xs at → e < length xs → p (part xs at e) ≡ false → LinesPassed (e + 1)
  line_miss at e s q h t = record { rest = rw t at (sym (line_next at e q h)) ∙ s.rest }

  pub line_none : (at e : ℕ) → LinesPassed at → e ≡ end_of c xs at → length xs ≤ e → false ≡ any_of p (ended c (drop from xs))
  unfolding any_of
  line_none at e s q h = sym (ap (any_of p) (line_done c xs at (rw q at h))) ∙ s.rest

-- ---- loops over bytes
module _ (xs : List ℕ) where
  pub ahead : (i : ℕ) → i < length xs → drop i xs ≡ get_or xs i 0 ∷ drop (i + 1) xs
  ahead i h = rw (add-one, drop-cons xs i 0)

  pub at_end : (i : ℕ) → length xs ≤ i → drop i xs ≡ []
  at_end i h = drop_of_length-le xs {i = i} h

  module _ (c : ℕ) where
    -- c does not stand between at and i
    pub record Sought (at i : ℕ) : Type 0 where
      pub within : i ≤ max at (length xs)
      pub rest : end_of c xs i ≡ end_of c xs at

    pub sought : (at : ℕ) → Sought at at
    sought at = record { within = omega arith; rest = refl }

    end_here : (i : ℕ) → i < length xs → end_of c xs i ≡ i + cond (eqb (get_or xs i 0) c) 0 (suc (index c (drop (i + 1) xs)))
    unfolding end_of index
    end_here i h = ap (λ (l : List ℕ). i + index c l) (ahead i h)

    ends : (at e : ℕ) → e ≤ max at (length xs) → e ≡ end_of c xs at → EndsAt xs c at e
    ends at e h q = record { is = q; from = rw q (end_ge c xs at); to = h }

    hit_is : (at i : ℕ) → Sought at i → i < length xs → get_or xs i 0 ≡ c → i ≡ end_of c xs at
    hit_is at i s h e = sym (add-zero i) ∙ rw (eq-eqb (get_or xs i 0) c e) at (sym (end_here i h)) ∙ s.rest

    pub sought_miss : (at i : ℕ) → Sought at i → i < length xs → (get_or xs i 0 ≡ c → ⊥) → Sought at (i + 1)
    unfolding end_of
    sought_miss at i s h e = record { within = omega arith; rest = omega (arith, rw (ne_eqb (get_or xs i 0) c e) at (end_here i h), s.rest) }

    pub sought_hit : (at i : ℕ) → Sought at i → i < length xs → get_or xs i 0 ≡ c → EndsAt xs c at i
    sought_hit at i s h e = ends at i s.within (hit_is at i s h e)

    done_is : (at i : ℕ) → Sought at i → length xs ≤ i → i ≡ end_of c xs at
    unfolding end_of index
    done_is at i s h = sym (add-zero i) ∙ sym (ap (λ (l : List ℕ). i + index c l) (at_end i h)) ∙ s.rest

    sought_done : (at i : ℕ) → Sought at i → length xs ≤ i → EndsAt xs c at i
    sought_done at i s h = ends at i s.within (done_is at i s h)

    pub sought_end : (at i e : ℕ) → Sought at i → at ≤ i → length xs ≤ i → e ≡ max at (length xs) → EndsAt xs c at e
    sought_end at i e s a h q = let k : i ≡ e = omega (arith, s.within) in subst (λ (j : ℕ). EndsAt xs c at j) k (sought_done at i s h)

  module _ (p : ℕ → Bool) where
    -- none of the bytes below i passes
    pub record Scanned (i : ℕ) : Type 0 where
      pub within : i ≤ length xs
      pub rest : any_of p (drop i xs) ≡ any_of p xs

    pub scan_start : Scanned 0
    scan_start = record { within = omega arith; rest = refl }

    pub scan_hit : (i : ℕ) → Scanned i → i < length xs → p (get_or xs i 0) ≡ true → true ≡ any_of p xs
    unfolding any_of
    scan_hit i s h t = rw t at (sym (ap (any_of p) (ahead i h))) ∙ s.rest

    pub scan_miss : (i : ℕ) → Scanned i → i < length xs → p (get_or xs i 0) ≡ false → Scanned (i + 1)
    unfolding any_of
    scan_miss i s h t = record { within = omega arith; rest = rw t at (sym (ap (any_of p) (ahead i h))) ∙ s.rest }

    pub scan_done : (i : ℕ) → Scanned i → length xs ≤ i → false ≡ any_of p xs
    unfolding any_of
    scan_done i s h = sym (ap (any_of p) (at_end i h)) ∙ s.rest

  module _ (p : ℕ → Bool) (from : ℕ) where
    -- all of the bytes between from and i pass
    pub record Held (i : ℕ) : Type 0 where
      pub rest : every p (drop i xs) ≡ every p (drop from xs)

    pub held_start : Held from
    held_start = record { rest = refl }

    pub held_not : (i : ℕ) → Held i → i < length xs → p (get_or xs i 0) ≡ false → false ≡ every p (drop from xs)
    unfolding every
    held_not i s h t = rw t at (sym (ap (every p) (ahead i h))) ∙ s.rest

    pub held_more : (i : ℕ) → Held i → i < length xs → p (get_or xs i 0) ≡ true → Held (i + 1)
    unfolding every
    held_more i s h t = record { rest = rw t at (sym (ap (every p) (ahead i h))) ∙ s.rest }

    pub held_done : (i : ℕ) → Held i → length xs ≤ i → true ≡ every p (drop from xs)
    unfolding every
    held_done i s h = sym (ap (every p) (at_end i h)) ∙ s.rest

  -- from the front on
  module _ (p : ℕ → Bool) where
    pub whole_not : (i : ℕ) → Held p 0 i → i < length xs → p (get_or xs i 0) ≡ false → false ≡ every p xs
    whole_not i s h t = held_not p 0 i s h t

    pub whole_done : (i : ℕ) → Held p 0 i → length xs ≤ i → true ≡ every p xs
    whole_done i s h = held_done p 0 i s h

-- ---- a loop over f 0, .., f (n - 1) that looks for a repeat
module _ (f : ℕ → List ℕ) (n : ℕ) where
  -- what stands below i is not repeated
  pub record Single (i : ℕ) : Type 0 where
    pub within : i ≤ n
    pub rest : distinct (onward f n i) ≡ distinct (tabulate f n)

  pub single_start : Single 0
  single_start = record { within = omega arith; rest = ap distinct (onward_start f n) }

  pub single_not : (i : ℕ) → Single i → i < n → any_of (same (f i)) (onward f n (i + 1)) ≡ true → false ≡ distinct (tabulate f n)
  unfolding distinct
  single_not i s h t = rw t at (sym (ap distinct (onward_step f n i h))) ∙ s.rest

  pub single_more : (i : ℕ) → Single i → i < n → any_of (same (f i)) (onward f n (i + 1)) ≡ false → Single (i + 1)
  unfolding distinct
  single_more i s h t = record { within = omega arith; rest = rw t at (sym (ap distinct (onward_step f n i h))) ∙ s.rest }

  pub single_done : (i : ℕ) → Single i → n ≤ i → true ≡ distinct (tabulate f n)
  unfolding distinct
  single_done i s h = sym (ap distinct (onward_done f n i h)) ∙ s.rest

-- ---- what the library answers
is_count : (c : ℕ) (xs : List ℕ) → count c xs ≡ count_by (λ x. eqb x c) xs
unfolding count
is_count c = is_count_by (count c) (λ x. eqb x c) refl (λ x xs. ap (λ (n : ℕ). cond (eqb x c) n (count c xs)) (omega arith))

pub count_of_passing : (c : ℕ) (xs : List ℕ) (n : ℕ) → n ≡ count_by (λ x. eqb x c) xs → CountOf c xs n
count_of_passing c xs n e = record { is = e ∙ sym (is_count c xs); small = rw e (count_by-le-length _ xs) }

pub is_same : (xs ys : List ℕ) → pointwise eqb xs ys ≡ same xs ys
unfolding same
is_same [] [] = refl
is_same [] (y ∷ ys) = refl
is_same (x ∷ xs) [] = refl
is_same (x ∷ xs) (y ∷ ys) = ap (λ (b : Bool). eqb x y && b) (is_same xs ys)

-- ---- two lists

pub same_true : (xs ys : List ℕ) → same xs ys ≡ true → xs ≡ ys
unfolding same
same_true [] [] h = refl
same_true [] (y ∷ ys) h = absurd (false≢true h)
same_true (x ∷ xs) [] h = absurd (false≢true h)
same_true (x ∷ xs) (y ∷ ys) h = let b = both_true (eqb x y) (same xs ys) h in ap₂ (λ (z : ℕ) (l : List ℕ). z ∷ l) (eqb-true x y b.0) (same_true xs ys b.1)

pub same_self : (xs : List ℕ) → same xs xs ≡ true
unfolding same
same_self [] = refl
same_self (x ∷ xs) = rw (eq-eqb x x refl, same_self xs)

-- what `search` is handed at the needs of such loops
pub ruleset loops = (
  start,
  hit,
  miss,
  done,
  line_start,
  line_hit,
  line_miss,
  line_none,
  sought,
  sought_hit,
  sought_miss,
  sought_end,
  scan_start,
  scan_hit,
  scan_miss,
  scan_done,
  held_start,
  held_not,
  held_more,
  held_done,
  whole_not,
  whole_done,
  kept_start,
  kept_not,
  kept_more,
  kept_done,
  lacks_start,
  lacks_not,
  lacks_more,
  lacks_done,
  single_start,
  single_not,
  single_more,
  single_done,
  via,
  via_true,
  via_false,
  rules,
)
