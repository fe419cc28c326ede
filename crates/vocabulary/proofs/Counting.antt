-- The stand-ins of one clause, those of the clauses before a place, and W: the ways that the routines that count them return. Assumes nothing.
use Prim.Native.Nat.{ℕ, ◌+◌, ◌*◌, ◌≤◌, ◌<◌}
use borrow.Author.Rules.{rules}
use borrow.Author.Tests.{eq-eqb, ne_eqb}
use lib.Count.{ones, ones-le}
use lib.ListN.{length}
use mathlib.Core.Bool.{true}
use mathlib.Core.List.{List}
use mathlib.Core.Path.{◌≡◌, sym, ap, ap₂, ◌∙◌}
use mir.Syntax.{w32}
use mir.Val.{Fits}
use native.Mathlib.Omega.{arith}
use Rattle.sets.specs.Lists.{onward, tabulate}
use Rattle.sets.proofs.Lists.{onward_start, onward_step, onward_done}
use Rattle.program.specs.declared.Program.{Program}
use Rattle.program.specs.Clauses.{Clause, clause_of, clause_at, standing}
use Rattle.program.specs.Valid.{valid}
use Rattle.program.proofs.Validity.{valid_names, valid_clauses}
use Rattle.program.proofs.Days.{DayTable}
use Rattle.literals.specs.Literals.{literals}
use Rattle.literals.proofs.Literals.{literals-length}
use Rattle.transform.specs.Transform.{stand_ins, all_stand_ins, members}
use Rattle.vocabulary.specs.Vocabulary.{literals_of, vocabulary}

-- ---- of one clause

pub ones_most : (head : ℕ) → Fits w32 head → ones head ≤ 64
ones_most head f = omega (arith, ones-le 32 head f.fits)

pub no_stand_ins : (head body naf : ℕ) → naf ≡ 0 → 0 ≡ stand_ins (clause_of head body naf)
unfolding stand_ins
no_stand_ins head body naf e = sym (rw (eq-eqb naf 0 e))

pub some-stand_ins : (head body naf : ℕ) → (naf ≡ 0 → ⊥) → stand_ins (clause_of head body naf) ≡ length (literals head)
unfolding stand_ins
some-stand_ins head body naf n = rw (ne_eqb naf 0 n)

pub counted-stand_ins : (head body naf : ℕ) → Fits w32 head → (naf ≡ 0 → ⊥) → ones head ≡ stand_ins (clause_of head body naf)
counted-stand_ins head body naf f n = sym (some-stand_ins head body naf n ∙ literals-length head (omega (arith, f.fits)))

-- ---- of all clauses: n before the clause k

pub record Tally (f : ℕ → Clause) (count k n : ℕ) : Type 0 where
  pub within : k ≤ count
  pub few : n ≤ 64 * k
  pub whole : n + all_stand_ins (onward f count k) ≡ all_stand_ins (tabulate f count)

module _ (f : ℕ → Clause) (count : ℕ) where
  pub tally_start : Tally f count 0 0
  tally_start = let e = ap all_stand_ins (onward_start f count) in record { within = omega arith; few = omega arith; whole = omega arith }

  module _ (k n : ℕ) (t : Tally f count k n) where
    pub tally_step : (r : ℕ) → k < count → (r ≡ stand_ins (f k)) × (r ≤ 64) → Tally f count (k + 1) (n + r)
    unfolding all_stand_ins
    tally_step r h d = let e = ap all_stand_ins (onward_step f count k h) in record { within = omega arith; few = omega (arith, t.few, d.1); whole = omega (arith, t.whole, d.0) }

    pub tally_few : count ≤ 64 → n ≤ 4096
    tally_few l = omega (arith, t.few, t.within)

    pub tally_done : count ≤ k → n ≡ all_stand_ins (tabulate f count)
    unfolding all_stand_ins
    tally_done h = let e = ap all_stand_ins (onward_done f count k h) in omega (arith, t.whole)

-- ---- of a valid table

module _ (p : Program) (v : valid p ≡ true) where
  pub names-few : p.atom_count ≤ 12
  names-few = (valid_names p v).few

  pub clauses-few : p.clause_count ≤ 64
  clauses-few = (valid_clauses p v).short

  -- its columns are arrays of 64 places
  pub column_fits : (xs : List ℕ) → length xs ≡ 64 → p.clause_count ≤ length xs
  column_fits xs l = omega (arith, clauses-few)

  pub counted : (m : ℕ) → m ≡ literals_of p → (st : ℕ) → st ≡ all_stand_ins (tabulate (clause_at p.heads p.bodies p.nafs) p.clause_count) → m + m + st ≡ members (literals_of p) (standing p)
  unfolding members standing
  counted m e st h = omega (arith, e, h)

-- W of the day's table is W of the day
pub of_day_lem : (p : Program) (d : ℕ) (q : Program) → DayTable p d q → members (literals_of q) (standing q) ≡ vocabulary p d
unfolding vocabulary
of_day_lem p d q t = ap₂ (λ (n : ℕ) (C : List Clause). members (2 * n) C) t.atoms t.standing_are

-- what `search` is handed for the bounds of a table's columns
pub ruleset columns = (clauses-few, column_fits, rules)
