-- Refusal 9, test by test: what each way to leave a routine says. Assumes nothing.
use mathlib.Core.Path.{◌≡◌, refl, ap, ap₂, ◌∙◌}
use mathlib.Core.Bool.{Bool, true, false, not, ◌&&◌, ◌||◌, and-false}
use mathlib.Core.List.{List, []}
use Prim.Native.Nat.{ℕ, ◌+◌, ◌-◌, ◌*◌, ◌≤◌, ◌<◌}
use native.Mathlib.Omega.{arith}
use lib.Dec.{eqb, leb, ltb}
use lib.ListN.{length, get_or, take, drop}
use borrow.Author.Tests.{le-leb, lt-leb}
use Rattle.sets.specs.Lists.{every, tabulate, below}
use Rattle.sets.proofs.Lists.{length-tabulate, get_d_tabulate, Kept, kept_start, kept_not, kept_more, kept_done}
use Rattle.lists.specs.Bytes.{index, same, distinct, EndsAt}
use Rattle.lists.proofs.Loops.{Held, held_not, held_done}
use Rattle.program.specs.declared.HeldClause.{HeldClause}
use Rattle.program.specs.declared.Program.{Program}
use Rattle.program.specs.Clauses.{clause_of, clause_at}
use Rattle.program.specs.Held.{held_clause}
use Rattle.program.specs.Values.{is_word}
use Rattle.program.specs.Names.{is_name, place, name_at, from_word, to_word, ends_dated}
use Rattle.program.specs.Valid.{zero_from, is_place, names_valid, is_clause, clauses_valid, days_fit, days_valid, held_valid, valid}
use Rattle.program.proofs.Places.{end_zero, place_part}

-- ---- zeros from a place on
module _ (xs : List ℕ) (from i : ℕ) (s : Held xs (eqb 0) from i) where
  pub zero_not : i < length xs → eqb 0 (get_or xs i 0) ≡ false → false ≡ zero_from from xs
  unfolding zero_from
  zero_not h t = held_not xs (eqb 0) from i s h t

  pub zero_done : length xs ≤ i → true ≡ zero_from from xs
  unfolding zero_from
  zero_done h = held_done xs (eqb 0) from i s h

-- ---- places of names
pub place_at : (xs : List ℕ) (i : ℕ) (r : Bool) → r ≡ is_place (take (8 * i + 8 - 8 * i) (drop (8 * i) xs)) → r ≡ is_place (place xs i)
place_at xs i r e = e ∙ ap is_place (place_part xs i)

pub places_same : (xs : List ℕ) (i j : ℕ) (r : Bool) → r ≡ same (take (8 * i + 8 - 8 * i) (drop (8 * i) xs)) (take (8 * j + 8 - 8 * j) (drop (8 * j) xs)) → r ≡ same (place xs i) (place xs j)
places_same xs i j r e = e ∙ ap₂ same (place_part xs i) (place_part xs j)

pub place_is : (xs : List ℕ) (n : ℕ) (a b : Bool) → EndsAt xs 0 0 n → a ≡ is_name (take n xs) → b ≡ zero_from n xs → a && b ≡ is_place xs
unfolding is_place
place_is xs n a b e f g =
    let h : n ≡ index 0 xs = e.is ∙ end_zero 0 xs in
    ap₂ ◌&&◌ (f ∙ ap (λ (k : ℕ). is_name (take k xs)) h) (g ∙ ap (λ (k : ℕ). zero_from k xs) h)

-- ---- names that end in from, to
pub named_is : (xs ys : List ℕ) (n : ℕ) (r : Bool) → EndsAt xs 0 0 n → r ≡ same (take n xs) ys → r ≡ same (take (index 0 xs) xs) ys
named_is xs ys n r e f = f ∙ ap (λ k. same (take k xs) ys) (e.is ∙ end_zero 0 xs)

pub name_at_lem : (xs ys : List ℕ) (i : ℕ) (r : Bool) → r ≡ same (take (index 0 (take (8 * i + 8 - 8 * i) (drop (8 * i) xs))) (take (8 * i + 8 - 8 * i) (drop (8 * i) xs))) ys
    → r ≡ same (name_at xs i) ys
unfolding name_at
name_at_lem xs ys i r e = e ∙ ap (λ s. same (take (index 0 s) s) ys) (place_part xs i)

module _ (xs : List ℕ) (n : ℕ) where
  pub ends-few : n < 3 → false ≡ ends_dated (tabulate (name_at xs) n)
  unfolding ends_dated
  ends-few h = rw (length-tabulate (name_at xs) n, lt-leb 3 n h)

  pub ends_are : (a b : Bool) → 3 ≤ n → a ≡ same (name_at xs (n - 2)) from_word → b ≡ same (name_at xs (n - 1)) to_word → a && b ≡ ends_dated (tabulate (name_at xs) n)
  unfolding ends_dated
  ends_are a b h e f = rw (
    length-tabulate (name_at xs) n,
    le-leb 3 n h,
    get_d_tabulate (name_at xs) n (n - 2) [] (omega arith),
    get_d_tabulate (name_at xs) n (n - 1) [] (omega arith),
    ← e,
    ← f,
  )

-- ---- names
module _ (dated : Bool) (xs : List ℕ) (n : ℕ) where
  pub names_none : n < 1 → false ≡ names_valid dated xs n
  unfolding names_valid
  names_none h = rw (lt-leb 1 n h)

  pub names_many : 12 < n → false ≡ names_valid dated xs n
  unfolding names_valid
  names_many h = rw (lt-leb n 12 h, and-false (leb 1 n))

  pub names_are : (a b c d : Bool) → 1 ≤ n → n ≤ 12
      → a ≡ every is_place (tabulate (place xs) n) → b ≡ distinct (tabulate (place xs) n) → c ≡ zero_from (8 * n) xs → d ≡ ends_dated (tabulate (name_at xs) n)
      → a && b && c && (dated || not d) ≡ names_valid dated xs n
  unfolding names_valid
  names_are a b c d h k e f g o = rw (le-leb 1 n h, le-leb n 12 k, ← e, ← f, ← g, ← o)

-- ---- clauses
pub clause_is : (n h b f : ℕ) (x y z : Bool) → x ≡ is_word n h → y ≡ is_word n b → z ≡ is_word n f
    → x && y && z && not (eqb h 0 && eqb b 0 && eqb f 0) ≡ is_clause n (clause_of h b f)
unfolding is_clause
clause_is n h b f x y z p q r = rw (p, q, r)

module _ (hs bs ns : List ℕ) (count n : ℕ) where
  pub clauses_many : 64 < count → false ≡ clauses_valid hs bs ns count n
  unfolding clauses_valid
  clauses_many h = rw (lt-leb count 64 h)

  pub clauses_are : (a b c d : Bool) → count ≤ 64 → a ≡ every (is_clause n) (tabulate (clause_at hs bs ns) count)
      → b ≡ zero_from count hs → c ≡ zero_from count bs → d ≡ zero_from count ns → a && b && c && d ≡ clauses_valid hs bs ns count n
  unfolding clauses_valid
  clauses_are a b c d h e f g k = rw (le-leb count 64 h, ← e, ← f, ← g, ← k)

-- ---- days
pub fit_is : (has : Bool) (f l : ℕ) → leb f l && (has || eqb l 0) ≡ days_fit has f l
unfolding days_fit
fit_is has f l = refl

module _ (dated : Bool) (fs ls : List ℕ) (count : ℕ) where
  -- the days at a place are such as they may be
  abbrev fits : ℕ → Bool
  fits k = days_fit (dated && ltb k count) (get_or fs k 0) (get_or ls k 0)

  -- so they are at all places below k
  pub record Fitting (k : ℕ) : Type 0 where
    pub below_it : Kept (λ i. i) 64 fits k

  pub fitting_start : Fitting 0
  fitting_start = record { below_it = kept_start (λ i. i) 64 fits }

  pub fitting_more : (k : ℕ) → Fitting k → k < 64 → fits k ≡ true → Fitting (k + 1)
  fitting_more k s h t = record { below_it = kept_more (λ i. i) 64 fits k s.below_it h t }

  pub fitting_not : (k : ℕ) → Fitting k → k < 64 → fits k ≡ false → false ≡ days_valid dated fs ls count
  unfolding days_valid below
  fitting_not k s h t = kept_not (λ i. i) 64 fits k s.below_it h t

  pub fitting_done : (k : ℕ) → Fitting k → 64 ≤ k → true ≡ days_valid dated fs ls count
  unfolding days_valid below
  fitting_done k s h = kept_done (λ i. i) 64 fits k s.below_it h

-- ---- the separate place
module _ (dated : Bool) (h : HeldClause) (count n : ℕ) where
  pub used_is : (a b d : Bool) → h.in_use ≡ true → a ≡ is_clause n (held_clause h) → b ≡ ltb count 64 → d ≡ days_fit dated h.first h.last → a && b && d ≡ held_valid dated h count n
  unfolding held_valid
  used_is a b d u e f g = rw (u, ← e, f, ← g)

  pub unused_is : (a b c d : Bool) → h.in_use ≡ false → a ≡ eqb h.head 0 → b ≡ eqb h.body 0 → c ≡ eqb h.naf 0 → d ≡ days_fit false h.first h.last
      → a && b && c && d ≡ held_valid dated h count n
  unfolding held_valid
  unused_is a b c d u e f g k = rw (u, e, f, g, ← k)

pub valid_is : (p : Program) (a b c d : Bool) → a ≡ names_valid p.dated p.atom_names p.atom_count
    → b ≡ clauses_valid p.heads p.bodies p.nafs p.clause_count p.atom_count
    → c ≡ days_valid p.dated p.firsts p.lasts p.clause_count
    → d ≡ held_valid p.dated p.held p.clause_count p.atom_count → a && b && c && d ≡ valid p
unfolding valid
valid_is p a b c d e f g h = rw (← e, ← f, ← g, ← h)
