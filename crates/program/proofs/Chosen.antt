-- The table of some rows: its rows are the chosen ones, in their order, and it is valid where the table is. Assumes nothing.
use mathlib.Core.Path.{◌≡◌, refl, sym, ap, ap₂, ◌∙◌, subst}
use mathlib.Core.Bool.{Bool, true, false, cond, ◌&&◌, and-true}
use mathlib.Core.Logic.{◌⊎◌, inl, inr}
use mathlib.Core.List.{List, [], ◌∷◌, map, map-map}
use Prim.Native.Nat.{ℕ, suc, ◌+◌, ◌^◌, ◌≤◌, ◌<◌}
use native.Mathlib.Nat.{zero-add, add-zero, add-suc, suc-add}
use native.Mathlib.Omega.{arith}
use lib.Dec.{T, ltb}
use lib.ListN.{length, get_or, length-map, get_or-map, get_or-eq_default}
use borrow.Author.Tests.{ltb-true, ltb-false, lt-ltb, le-leb}
use Rattle.sets.specs.Lists.{◌∈◌, Each, every, sift, up_from, tabulate, below}
use Rattle.sets.specs.Words.{Set, bit}
use Rattle.sets.proofs.Tests.{dec, both_true, and_is_true}
use Rattle.sets.proofs.Lists.{in_below, below_in, sift_in, sift_out, every_each, each_every, map_in, at_in, map-up_from, up_from_in, in_up_from, length-tabulate, get_d_tabulate, length_below}
use Rattle.sets.proofs.Rising.{rising_ext, sift-rising, below-rising}
use Rattle.sets.proofs.Digits.{bit-small}
use Rattle.lists.specs.Bytes.{padded}
use Rattle.lists.proofs.Padding.{padded_at, padded_tail}
use Rattle.program.specs.declared.HeldClause.{HeldClause}
use Rattle.program.specs.declared.Program.{Program}
use Rattle.program.specs.Clauses.{Row, row_at, rows, standing, clause_at, no_row}
use Rattle.program.specs.Held.{nothing_held}
use Rattle.program.specs.Valid.{zero_from, names_valid, is_clause, clauses_valid, days_fit, days_valid, valid}
use Rattle.program.specs.Only.{chosen, with_columns, with_rows, only_of, is_chosen, numbers, column_of, Picks}
use Rattle.program.proofs.Validity.{valid_parts, valid_clauses, valid_days, valid_from, held_unused, days_fit_lem}

-- ---- lists
module _ {A : Type 0} where
  pub sift_ext : (p q : A → Bool) (l : List A) → Each (λ x. p x ≡ q x) l → sift p l ≡ sift q l
  unfolding sift
  sift_ext p q [] f = refl
  sift_ext p q (x ∷ l) f = rw (f x (inl refl), sift_ext p q l (λ y m. f y (inr m)))

  pub sift-length : (p : A → Bool) (l : List A) → length (sift p l) ≤ length l
  unfolding sift
  sift-length p [] = omega arith
  sift-length p (x ∷ l) = go (p x) (sift-length p l)
    where
      go : (b : Bool) → length (sift p l) ≤ length l → length (cond b (x ∷ sift p l) (sift p l)) ≤ suc (length l)
      go true h = omega arith
      go false h = omega arith

  -- one after the other, by place
  pub up_is : (f : ℕ → A) (d : A) (l : List A) (i : ℕ) → ((j : ℕ) → j < length l → f (i + j) ≡ get_or l j d) → up_from f (length l) i ≡ l
  unfolding up_from
  up_is f d [] i h = refl
  up_is f d (x ∷ l) i h = ap₂ (λ (y : A) (ys : List A). y ∷ ys) (ap f (sym (add-zero i)) ∙ h 0 (omega arith))
      (up_is f d l (suc i) (λ j m. ap f (rw (suc-add, add-suc)) ∙ h (suc j) (omega arith)))

module _ {A B : Type 0} where
  pub map_ext : (f g : A → B) (l : List A) → Each (λ x. f x ≡ g x) l → map f l ≡ map g l
  map_ext f g [] h = refl
  map_ext f g (x ∷ l) h = ap₂ (λ (y : B) (ys : List B). y ∷ ys) (h x (inl refl)) (map_ext f g l (λ y m. h y (inr m)))

  -- what passes a test on its image
  pub map-sift : (f : A → B) (t : B → Bool) (l : List A) → map f (sift (λ x. t (f x)) l) ≡ sift t (map f l)
  unfolding sift
  map-sift f t [] = refl
  map-sift f t (x ∷ l) = go (t (f x)) (map-sift f t l)
    where
      go : (b : Bool) → map f (sift (λ x. t (f x)) l) ≡ sift t (map f l)
          → map f (cond b (x ∷ sift (λ x. t (f x)) l) (sift (λ x. t (f x)) l)) ≡ cond b (f x ∷ sift t (map f l)) (sift t (map f l))
      go true h = ap (λ (m : List B). f x ∷ m) h
      go false h = h

-- a list, place by place
pub by_place : {A : Type 0} (d : A) (l : List A) → map (λ k. get_or l k d) (below (length l)) ≡ l
unfolding below tabulate
by_place d l = map-up_from (λ k. get_or l k d) (λ k. k) (length l) 0 ∙ up_is (λ k. get_or l k d) d l 0 (λ j h. rw zero-add)

-- ---- the rows that are chosen
-- where membership is a test of the row itself, the rows that pass it
pub chosen_by : (S : Set ℕ) (t : Row → Bool) (R : List Row) → ((k : ℕ) → k < length R → S k ≡ t (get_or R k no_row)) → chosen S R ≡ sift t R
unfolding chosen
chosen_by S t R h =
    ap (map (λ k. get_or R k no_row)) (sift_ext S (λ k. t (get_or R k no_row)) (below (length R)) (λ k m. h k (in_below (length R) k m)))
    ∙ map-sift (λ k. get_or R k no_row) t (below (length R)) ∙ ap (sift t) (by_place no_row R)

numbers_are : (w count : ℕ) → w < 2 ^ 64 → numbers w count ≡ sift (bit w) (below count)
unfolding numbers is_chosen
numbers_are w count h = rising_ext (numbers w count) (sift (bit w) (below count)) (sift-rising _ (below 64) (below-rising 64)) (sift-rising _ (below count) (below-rising count))
    (λ z m.
    let r = sift_out (is_chosen w count) (below 64) z m in
    let b = both_true (ltb z count) (bit w z) r.1 in
    sift_in (bit w) (below count) z (below_in count z (ltb-true z count b.0)) b.1)
    (λ z m.
    let r = sift_out (bit w) (below count) z m in
    sift_in (is_chosen w count) (below 64) z (below_in 64 z (bit-small w 64 z h (subst T (sym r.1) tt))) (and_is_true _ _ (lt-ltb z count (in_below count z r.0)) r.1))

-- the chosen rows of a table, by their numbers
module _ (p : Program) (w : ℕ) (h : w < 2 ^ 64) where
  pub chosen_at : chosen (bit w) (rows p) ≡ map (row_at p) (numbers w p.clause_count)
  unfolding chosen rows
  chosen_at =
      let n = p.clause_count in
      ap (λ m. map (λ k. get_or (tabulate (row_at p) n) k no_row) (sift (bit w) (below m))) (length-tabulate (row_at p) n)
      ∙ map_ext (λ k. get_or (tabulate (row_at p) n) k no_row) (row_at p) (sift (bit w) (below n))
      (λ k m. get_d_tabulate (row_at p) n k no_row (in_below n k (sift_out (bit w) (below n) k m).0))
      ∙ ap (map (row_at p)) (sym (numbers_are w n h))

  -- the table of them, made column by column
  pub only_is : {hs bs ns fs ls : List ℕ} {hc bc nc : ℕ} {q : Program} → q ≡ with_columns p hc hs bs ns fs ls
      → Picks p.heads (numbers w p.clause_count) hs hc → Picks p.bodies (numbers w p.clause_count) bs bc → Picks p.nafs (numbers w p.clause_count) ns nc
      → fs ≡ column_of p.firsts (numbers w p.clause_count) → ls ≡ column_of p.lasts (numbers w p.clause_count) → q ≡ only_of p w
  unfolding only_of with_rows column_of
  only_is o a b c e g =
      let ks = numbers w p.clause_count in
      o ∙ rw (
        a.all,
        a.number,
        b.all,
        c.all,
        e,
        g,
        chosen_at,
        length-map ks (row_at p),
        map-map (λ r. r.clause.head) (row_at p) ks,
        map-map (λ r. r.clause.body) (row_at p) ks,
        map-map (λ r. r.clause.naf) (row_at p) ks,
        map-map (λ r. r.first) (row_at p) ks,
        map-map (λ r. r.last) (row_at p) ks,
      )

-- ---- a table with other rows
pub columns_put : (p : Program) (count : ℕ) (hs bs ns fs ls : List ℕ) {h : HeldClause} → h ≡ nothing_held
    → record {
      atom_count = p.atom_count;
      atom_names = p.atom_names;
      clause_count = count;
      heads = hs;
      bodies = bs;
      nafs = ns;
      dated = p.dated;
      firsts = fs;
      lasts = ls;
      held = h;
    } ≡ with_columns p count hs bs ns fs ls
columns_put p count hs bs ns fs ls o = rw o

module _ (p : Program) (R : List Row) where
  pub row_back : (j : ℕ) → row_at (with_rows p R) j ≡ get_or R j no_row
  unfolding with_rows
  row_back j = rw (
    column (λ r. r.clause.head) refl,
    column (λ r. r.clause.body) refl,
    column (λ r. r.clause.naf) refl,
    column (λ r. r.first) refl,
    column (λ r. r.last) refl,
  )
    where
      column : (f : Row → ℕ) → f no_row ≡ 0 → get_or (padded 64 (map f R)) j 0 ≡ f (get_or R j no_row)
      column f z = padded_at 64 (map f R) j ∙ ap (get_or (map f R) j) (sym z) ∙ get_or-map f R j no_row

  -- they are its rows
  pub rows_are : rows (with_rows p R) ≡ R
  unfolding rows tabulate with_rows
  rows_are = up_is (row_at (with_rows p R)) no_row R 0 (λ j h. ap (row_at (with_rows p R)) (zero-add j) ∙ row_back j)

-- the clauses that stand are those of the rows
pub standing_rows : (p : Program) → standing p ≡ map (λ r. r.clause) (rows p)
unfolding standing rows tabulate
standing_rows p = sym (map-up_from (λ r. r.clause) (row_at p) p.clause_count 0)

-- ---- a table with rows over its names, their days in order
module _ (p : Program) (R : List Row) (few : length R ≤ 64) (over : Each (λ r. is_clause p.atom_count r.clause ≡ true) R)
    (fit : Each (λ r. days_fit p.dated r.first r.last ≡ true) R) where
  ruled : every (is_clause p.atom_count) (standing (with_rows p R)) ≡ true
  ruled =
      ap (every (is_clause p.atom_count)) (standing_rows (with_rows p R) ∙ ap (map (λ r. r.clause)) (rows_are p R))
      ∙ each_every (is_clause p.atom_count) (map (λ r. r.clause) R) (λ c m.
      let s = map_in (λ (r : Row). r.clause) c R m in
      ap (is_clause p.atom_count) s.2 ∙ over s.0 s.1)

  rest : (f : Row → ℕ) → zero_from (length R) (padded 64 (map f R)) ≡ true
  unfolding zero_from
  rest f = padded_tail 64 (length R) (map f R) (length-map R f)

  with_clauses : clauses_valid (with_rows p R).heads (with_rows p R).bodies (with_rows p R).nafs (length R) p.atom_count ≡ true
  unfolding clauses_valid with_rows standing
  with_clauses = and_is_true _ _ (le-leb (length R) 64 few)
      (and_is_true _ _ (and_is_true _ _ (and_is_true _ _ ruled (rest (λ r. r.clause.head))) (rest (λ r. r.clause.body))) (rest (λ r. r.clause.naf)))

  with_days_lem : days_valid p.dated (with_rows p R).firsts (with_rows p R).lasts (length R) ≡ true
  unfolding days_valid
  with_days_lem = each_every _ (below 64) (λ k m. ap (λ (r : Row). days_fit (p.dated && ltb k (length R)) r.first r.last) (row_back p R k) ∙ fits k (dec (ltb k (length R))))
    where
      fits : (k : ℕ) → (ltb k (length R) ≡ true) ⊎ (ltb k (length R) ≡ false) → days_fit (p.dated && ltb k (length R)) (get_or R k no_row).first (get_or R k no_row).last ≡ true
      fits k (inl e) = rw (e, and-true p.dated) (fit (get_or R k no_row) (at_in R no_row k (ltb-true k (length R) e)))
      fits k (inr e) = rw (get_or-eq_default R no_row (ltb-false k (length R) e)) (days_fit_lem (p.dated && ltb k (length R)) 0 0 (omega arith) (λ h. refl))

  pub rows_valid : names_valid p.dated p.atom_names p.atom_count ≡ true → valid (with_rows p R) ≡ true
  unfolding with_rows
  rows_valid h = valid_from (with_rows p R) (record {
    names = h;
    clauses = with_clauses;
    days = with_days_lem;
    held = held_unused p.dated nothing_held (length R) p.atom_count refl;
  })

-- ---- some rows of a valid table
module _ (p : Program) (v : valid p ≡ true) where
  -- a row of it is at some place, its clause over the names and its days in order
  row_in : (r : Row) → r ∈ rows p → (k : ℕ) × (k < p.clause_count) × (r ≡ row_at p k)
  unfolding rows tabulate
  row_in r m = let u = up_from_in (row_at p) p.clause_count 0 r m in (u.0, omega (arith, u.2), u.3)

  pub row_clause : (r : Row) → r ∈ rows p → is_clause p.atom_count r.clause ≡ true
  unfolding tabulate
  row_clause r m =
      let u = row_in r m in
      let at = clause_at p.heads p.bodies p.nafs in
      ap (λ (s : Row). is_clause p.atom_count s.clause) u.2
      ∙ every_each (is_clause p.atom_count) (up_from at p.clause_count 0) (valid_clauses p v).ruled (at u.0) (in_up_from at p.clause_count 0 u.0 (omega arith) (omega (arith, u.1)))

  pub row_days : (r : Row) → r ∈ rows p → days_fit p.dated r.first r.last ≡ true
  row_days r m =
      let u = row_in r m in
      let s = (valid_clauses p v).short in
      ap (λ (s : Row). days_fit p.dated s.first s.last) u.2
      ∙ ap (λ b. days_fit b (get_or p.firsts u.0 0) (get_or p.lasts u.0 0)) (rw (lt-ltb u.0 p.clause_count u.1, and-true p.dated))
      ∙ valid_days p v u.0 (omega (arith, u.1))

  pub with_valid : (R : List Row) → length R ≤ 64 → Each (λ r. r ∈ rows p) R → valid (with_rows p R) ≡ true
  with_valid R few own = rows_valid p R few (λ r m. row_clause r (own r m)) (λ r m. row_days r (own r m)) (valid_parts p v).names

  -- the table of the rows of a set: valid, and its rows are the chosen ones
  module _ (w : ℕ) where
    chosen_own : Each (λ r. r ∈ rows p) (chosen (bit w) (rows p))
    unfolding chosen
    chosen_own r m =
        let s = map_in (λ k. get_or (rows p) k no_row) r (sift (bit w) (below (length (rows p)))) m in
        subst (λ (z : Row). z ∈ rows p) (sym s.2) (at_in (rows p) no_row s.0 (in_below (length (rows p)) s.0 (sift_out (bit w) (below (length (rows p))) s.0 s.1).0))

    chosen-few : length (chosen (bit w) (rows p)) ≤ 64
    unfolding chosen rows
    chosen-few = omega (
      arith,
      length-map (sift (bit w) (below (length (rows p)))) (λ k. get_or (rows p) k no_row),
      sift-length (bit w) (below (length (rows p))),
      length_below (length (rows p)),
      length-tabulate (row_at p) p.clause_count,
      (valid_clauses p v).short,
    )

    pub only_valid : valid (only_of p w) ≡ true
    unfolding only_of
    only_valid = with_valid (chosen (bit w) (rows p)) chosen-few chosen_own

pub only_rows : (p : Program) (w : ℕ) → rows (only_of p w) ≡ chosen (bit w) (rows p)
unfolding only_of
only_rows p w = rows_are p (chosen (bit w) (rows p))
