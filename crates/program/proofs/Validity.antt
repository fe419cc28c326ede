-- What a valid table is, by name. Assumes nothing.
use mathlib.Core.Path.{◌≡◌, refl, sym, ap, ◌∙◌, subst}
use mathlib.Core.Bool.{Bool, true, false, not, ◌&&◌, ◌||◌, and-true}
use mathlib.Core.Logic.{◌↔◌, ⊎_elim}
use mathlib.Core.List.{List}
use Prim.Native.Nat.{ℕ, ◌*◌, ◌^◌, ◌≤◌, ◌<◌}
use native.Mathlib.Omega.{arith}
use lib.Dec.{eqb, leb, ltb}
use lib.ListN.{length, get_or}
use mir.Syntax.{w16}
use mir.Val.{Fits}
use borrow.Author.Tests.{not-true, eq-eqb, eqb-true, leb-true, le-leb, ltb-true, lt-ltb}
use Rattle.sets.specs.Lists.{◌∈◌, Each, every, sift, up_from, tabulate, below}
use Rattle.sets.proofs.Tests.{dec, clash, both_true}
use Rattle.sets.proofs.Lists.{every_each, map_in, sift_out, up_from_in, in_up_from, below_in}
use Rattle.lists.specs.Bytes.{distinct}
use Rattle.program.specs.declared.HeldClause.{HeldClause}
use Rattle.program.specs.declared.Program.{Program}
use Rattle.program.specs.Clauses.{Clause, Below, row_at, rows, clause_at, is_equal, no_clause, is_empty}
use Rattle.program.specs.Days.{of_day, clauses}
use Rattle.program.specs.Held.{held_clause, nothing_held, holding, released}
use Rattle.program.specs.Values.{is_word}
use Rattle.program.specs.Names.{place, name_at, ends_dated}
use Rattle.program.specs.Valid.{zero_from, is_place, names_valid, is_clause, clauses_valid, days_fit, days_valid, held_valid, valid, Sized}

pub record NamesParts (dated : Bool) (xs : List ℕ) (n : ℕ) : Type 0 where
  pub one_up : 1 ≤ n
  pub few : n ≤ 12
  pub named : every is_place (tabulate (place xs) n) ≡ true
  pub apart : distinct (tabulate (place xs) n) ≡ true
  pub blank : zero_from (8 * n) xs ≡ true
  pub ending : dated || not (ends_dated (tabulate (name_at xs) n)) ≡ true

pub record ClausesParts (hs bs ns : List ℕ) (count n : ℕ) : Type 0 where
  pub short : count ≤ 64
  pub ruled : every (is_clause n) (tabulate (clause_at hs bs ns) count) ≡ true
  pub no_heads : zero_from count hs ≡ true
  pub no_bodies : zero_from count bs ≡ true
  pub no_nafs : zero_from count ns ≡ true

names_parts : (dated : Bool) (xs : List ℕ) (n : ℕ) → names_valid dated xs n ≡ true → NamesParts dated xs n
unfolding names_valid
names_parts dated xs n h =
    let u = dated || not (ends_dated (tabulate (name_at xs) n)) in
    let a = both_true (leb 1 n && leb n 12) (every is_place (tabulate (place xs) n) && distinct (tabulate (place xs) n) && zero_from (8 * n) xs && u) h in
    let b = both_true (leb 1 n) (leb n 12) a.0 in
    let e = both_true (every is_place (tabulate (place xs) n) && distinct (tabulate (place xs) n) && zero_from (8 * n) xs) u a.1 in
    let c = both_true (every is_place (tabulate (place xs) n) && distinct (tabulate (place xs) n)) (zero_from (8 * n) xs) e.0 in
    let d = both_true (every is_place (tabulate (place xs) n)) (distinct (tabulate (place xs) n)) c.0 in
    record { one_up = leb-true 1 n b.0; few = leb-true n 12 b.1; named = d.0; apart = d.1; blank = c.1; ending = e.1 }

clauses_parts : (hs bs ns : List ℕ) (count n : ℕ) → clauses_valid hs bs ns count n ≡ true → ClausesParts hs bs ns count n
unfolding clauses_valid
clauses_parts hs bs ns count n h =
    let r = every (is_clause n) (tabulate (clause_at hs bs ns) count) in
    let a = both_true (leb count 64) (r && zero_from count hs && zero_from count bs && zero_from count ns) h in
    let b = both_true (r && zero_from count hs && zero_from count bs) (zero_from count ns) a.1 in
    let c = both_true (r && zero_from count hs) (zero_from count bs) b.0 in
    let d = both_true r (zero_from count hs) c.0 in
    record { short = leb-true count 64 a.0; ruled = d.0; no_heads = d.1; no_bodies = c.1; no_nafs = b.1 }

-- a valid table, test by test
pub record ValidParts (p : Program) : Type 0 where
  pub names : names_valid p.dated p.atom_names p.atom_count ≡ true
  pub clauses : clauses_valid p.heads p.bodies p.nafs p.clause_count p.atom_count ≡ true
  pub days : days_valid p.dated p.firsts p.lasts p.clause_count ≡ true
  pub held : held_valid p.dated p.held p.clause_count p.atom_count ≡ true

-- but for what is held
abbrev readable : Program → Bool
readable p =
    names_valid p.dated p.atom_names p.atom_count && clauses_valid p.heads p.bodies p.nafs p.clause_count p.atom_count
    && days_valid p.dated p.firsts p.lasts p.clause_count

pub valid_from : (p : Program) → ValidParts p → valid p ≡ true
unfolding valid
valid_from p t = rw (t.names, t.clauses, t.days, t.held)

module _ (p : Program) (v : valid p ≡ true) where
  pub valid_parts : ValidParts p
  unfolding valid
  valid_parts =
      let a = both_true (readable p) (held_valid p.dated p.held p.clause_count p.atom_count) v in
      let b = both_true _ _ a.0 in
      let c = both_true _ _ b.0 in
      record { names = c.0; clauses = c.1; days = b.1; held = a.1 }

  pub valid_names : NamesParts p.dated p.atom_names p.atom_count
  valid_names = names_parts p.dated p.atom_names p.atom_count valid_parts.names

  pub valid_clauses : ClausesParts p.heads p.bodies p.nafs p.clause_count p.atom_count
  valid_clauses = clauses_parts p.heads p.bodies p.nafs p.clause_count p.atom_count valid_parts.clauses

  pub valid_held : held_valid p.dated p.held p.clause_count p.atom_count ≡ true
  valid_held = valid_parts.held

  -- the days at each place are in order, and zero but in the rows of a dated table
  pub valid_days : (k : ℕ) → k < 64 → days_fit (p.dated && ltb k p.clause_count) (get_or p.firsts k 0) (get_or p.lasts k 0) ≡ true
  unfolding days_valid
  valid_days k h = every_each (λ k. days_fit (p.dated && ltb k p.clause_count) (get_or p.firsts k 0) (get_or p.lasts k 0)) (below 64) valid_parts.days k (below_in 64 k h)

pub clause_below : (n : ℕ) (c : Clause) → is_clause n c ≡ true → Below (2 * n) c
unfolding is_clause is_word
clause_below n c h =
    let a = both_true (is_word n c.head && is_word n c.body && is_word n c.naf) (not (is_empty c)) h in
    let b = both_true (is_word n c.head && is_word n c.body) (is_word n c.naf) a.0 in
    let d = both_true (is_word n c.head) (is_word n c.body) b.0 in
    record { heads = ltb-true _ _ d.0; bodies = ltb-true _ _ d.1; nafs = ltb-true _ _ b.1 }

-- what is said to be equal is the same clause
pub equal_is : (c d : Clause) → is_equal c d ≡ true → c ≡ d
equal_is c d h =
    let t = both_true (eqb c.head d.head && eqb c.body d.body) (eqb c.naf d.naf) h in
    let s = both_true (eqb c.head d.head) (eqb c.body d.body) t.0 in
    rw (eqb-true c.head d.head s.0, eqb-true c.body d.body s.1, eqb-true c.naf d.naf t.1)

pub equal_self : (c : Clause) → is_equal c c ≡ true
equal_self c = rw (eq-eqb c.head c.head refl, eq-eqb c.body c.body refl, eq-eqb c.naf c.naf refl)

-- a clause is one with some literal, over the n atoms
pub clause_exactly : (n : ℕ) (c : Clause) → (is_clause n c ≡ true) ↔ ((c ≡ no_clause → ⊥) × Below (2 * n) c)
unfolding is_clause is_word
clause_exactly n c = (
  λ h. (
    λ e. clash (is_empty c) (ap is_empty e) (not-true (is_empty c) (both_true (is_word n c.head && is_word n c.body && is_word n c.naf) (not (is_empty c)) h).1),
    clause_below n c h,
  ),
  λ t. let b = t.1 in
      rw (lt-ltb c.head (2 ^ (2 * n)) b.heads, lt-ltb c.body (2 ^ (2 * n)) b.bodies, lt-ltb c.naf (2 ^ (2 * n)) b.nafs, some_literal c t.0),
)
  where
    some_literal : (c : Clause) → (c ≡ no_clause → ⊥) → is_empty c ≡ false
    some_literal c d = ⊎_elim (λ h. absurd (d (equal_is c no_clause h))) (λ h. h) (dec (is_empty c))

-- the clauses of a valid table are over its atoms, on every day
pub valid_below : (p : Program) (d : ℕ) → valid p ≡ true → Each (Below (2 * p.atom_count)) (clauses p d)
unfolding clauses rows tabulate
valid_below p d v c m =
    let n = p.clause_count in
    let at = clause_at p.heads p.bodies p.nafs in
    let s = map_in (λ r. r.clause) c (sift (of_day p d) (up_from (row_at p) n 0)) m in
    let u = up_from_in (row_at p) n 0 s.0 (sift_out (of_day p d) (up_from (row_at p) n 0) s.0 s.1).0 in
    let e : c ≡ at u.0 = s.2 ∙ ap (λ r. r.clause) u.3 in
    clause_below p.atom_count c
    (every_each (is_clause p.atom_count) (up_from at n 0) (valid_clauses p v).ruled c (subst (λ z. z ∈ up_from at n 0) (sym e) (in_up_from at n 0 u.0 u.1 u.2)))

-- ---- days
-- in order, and zero where the place has none
pub record DaysParts (has : Bool) (f l : ℕ) : Type 0 where
  pub order : f ≤ l
  pub none : has ≡ false → (f ≡ 0) × (l ≡ 0)

pub days_parts : (has : Bool) (f l : ℕ) → days_fit has f l ≡ true → DaysParts has f l
unfolding days_fit
days_parts has f l h =
    let t = both_true (leb f l) (has || eqb l 0) h in
    let o = leb-true f l t.0 in
    record { order = o; none = λ e. let z = eqb-true l 0 (rw e at t.1) in (omega arith, z) }

pub days_fit_lem : (has : Bool) (f l : ℕ) → f ≤ l → (has ≡ false → l ≡ 0) → days_fit has f l ≡ true
unfolding days_fit
days_fit_lem true f l o z = rw (le-leb f l o)
days_fit_lem false f l o z = rw (le-leb f l o, eq-eqb l 0 (z refl))

-- ---- what is held
-- a table is valid where it is with nothing held, and what it holds may be held
pub valid-split : (p : Program) → valid p ≡ valid (released p) && held_valid p.dated p.held p.clause_count p.atom_count
unfolding valid released holding held_valid days_fit
valid-split p = rw (and-true (readable p))

pub released_valid : (p : Program) → valid p ≡ true → valid (released p) ≡ true
released_valid p v = (both_true (valid (released p)) (held_valid p.dated p.held p.clause_count p.atom_count) (sym (valid-split p) ∙ v)).0

-- a clause that is held is neither empty nor outside the names, fewer than 64 stand, and its days are in order
pub record HeldParts (dated : Bool) (h : HeldClause) (count n : ℕ) : Type 0 where
  pub clause : is_clause n (held_clause h) ≡ true
  pub room : count < 64
  pub days : days_fit dated h.first h.last ≡ true

module _ (dated : Bool) (h : HeldClause) (count n : ℕ) where
  pub held_fits : held_valid dated h count n ≡ true → h.in_use ≡ true → HeldParts dated h count n
  unfolding held_valid
  held_fits v u =
      let t = both_true (is_clause n (held_clause h) && ltb count 64) (days_fit dated h.first h.last) (rw u at v) in
      let s = both_true (is_clause n (held_clause h)) (ltb count 64) t.0 in
      record { clause = s.0; room = ltb-true count 64 s.1; days = t.1 }

  -- where none is held the place is zero
  pub held_nothing : held_valid dated h count n ≡ true → h.in_use ≡ false → h ≡ nothing_held
  unfolding held_valid
  held_nothing v u =
      let t = both_true (is_empty (held_clause h)) (days_fit false h.first h.last) (rw u at v) in
      let e = equal_is (held_clause h) no_clause t.0 in
      let z = (days_parts false h.first h.last t.1).none refl in
      rw (u, ap (λ c. c.head) e, ap (λ c. c.body) e, ap (λ c. c.naf) e, z.0, z.1)

  pub held_used : h.in_use ≡ true → HeldParts dated h count n → held_valid dated h count n ≡ true
  unfolding held_valid
  held_used u t = rw (u, t.clause, lt-ltb count 64 t.room, t.days)

  pub held_unused : h ≡ nothing_held → held_valid dated h count n ≡ true
  unfolding held_valid days_fit
  held_unused e = rw e

-- a valid table with nothing held is the table that it is without the held clause
pub released_same : (p : Program) → valid p ≡ true → p.held.in_use ≡ false → released p ≡ p
unfolding released holding
released_same p v u = rw (← held_nothing p.dated p.held p.clause_count p.atom_count (valid_held p v) u)

-- what the types of its fields give of a table
pub typed : (p : Program) → length p.atom_names ≡ 96 → length p.heads ≡ 64 → length p.bodies ≡ 64 → length p.nafs ≡ 64 → length p.firsts ≡ 64 → length p.lasts ≡ 64
    → ((k : ℕ) → Fits w16 (get_or p.firsts k 0)) → ((k : ℕ) → Fits w16 (get_or p.lasts k 0)) → Sized p
typed p a h b n f l x y = record {
  names = a;
  heads = h;
  bodies = b;
  nafs = n;
  firsts = f;
  lasts = l;
  days = λ k. (omega (arith, (x k).fits), omega (arith, (y k).fits));
}
