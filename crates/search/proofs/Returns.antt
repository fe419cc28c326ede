-- The ways that the search of a table returns, and what the run asks of its table. Assumes nothing.
use Rattle.program.specs.declared.Refusal.TheVariants.{InvalidProgram}
use Rattle.std.specs.Prelude.{Err}
use mathlib.Core.Path.{◌≡◌, sym, ap, ◌∙◌}
use mathlib.Core.Bool.{Bool, true, false, not}
use mathlib.Core.List.{List}
use Prim.Native.Nat.{ℕ, ◌≤◌}
use native.Mathlib.Omega.{arith}
use borrow.Author.Tests.{not-true, not-false}
use Rattle.sets.specs.Lists.{tabulate}
use Rattle.program.specs.declared.Program.{Program}
use Rattle.program.specs.Clauses.{clause_at, standing}
use Rattle.program.specs.Days.{RowsOfDay}
use Rattle.program.specs.Only.{only_of}
use Rattle.program.specs.Valid.{valid}
use Rattle.program.proofs.Validity.{valid_names, valid_clauses}
use Rattle.program.proofs.Chosen.{only_valid}
use Rattle.program.proofs.Days.{day_table}
use Rattle.tree.specs.NodeTest.{dead}
use Rattle.tree.specs.Answer.{SearchAnswer, answer, Searches, Ends}
use Rattle.tree.proofs.Runs.{accepted, refused}
use Rattle.columns.specs.Columns.{Columns}
use Rattle.columns.proofs.Again.{columns_same}
use Rattle.leaf.specs.Packed.{packed_at, Packs}
use Rattle.leaf.proofs.Packing.{packed_same}

module _ (p : Program) (d A : ℕ) (l : List ℕ) where
  pub no_table : {v : Bool} {a : SearchAnswer} → v ≡ valid p → not v ≡ true → a ≡ answer (Err InvalidProgram) 0 0 → Searches p d A l a l
  no_table {v} e h q = let r = refused p d A l (sym e ∙ not-true v h) in record { says = q ∙ sym r.0; lists = sym r.1 }

-- ---- the table of the day's clauses
module _ (p : Program) {v : Bool} (e : v ≡ valid p) (h : not v ≡ false) (w : ℕ) {q : Program} (g : q ≡ only_of p w) where
  pub day_valid : valid q ≡ true
  day_valid = rw g (only_valid p (sym e ∙ not-false v h) w)

  -- what the run over them ends in is what the search of the table on the day does
  pub searched : (d A : ℕ) (l : List ℕ) {a : SearchAnswer} {m : List ℕ} → RowsOfDay p d w → Ends (dead (standing q)) (standing q) q.atom_count A l a m → Searches p d A l a m
  searched d A l {a} {m} s f =
      let u = sym e ∙ not-false v h in
      let r = accepted p d A l u in
      let o = ap standing g ∙ (day_table p d w u s).standing_are in
      let n = ap (λ (x : Program). x.atom_count) g ∙ (day_table p d w u s).atoms in
      let x = rw (o, n) at f in
      record { says = x.says ∙ sym r.0; lists = x.lists ∙ sym r.1 }

-- ---- all clauses of a table
module _ (p : Program) (v : valid p ≡ true) where
  pub few_clauses : p.clause_count ≤ 64
  few_clauses = (valid_clauses p v).short

  pub few-atoms : p.atom_count ≤ 12
  few-atoms = (valid_names p v).few

  module _ (t : List ℕ) (k : Packs p.heads p.bodies p.nafs t) where
    -- packed they have the same columns, and the run over them is the same
    pub packed_columns : (C : List ℕ) → Columns (clause_at p.heads p.bodies p.nafs) p.clause_count C → Columns (packed_at t) p.clause_count C
    packed_columns C s = columns_same (clause_at p.heads p.bodies p.nafs) (packed_at t) p.clause_count C (λ i h. sym (k.same i (omega (arith, few_clauses)))) s

    pub packed_ends : (A : ℕ) (l : List ℕ) (a : SearchAnswer) (m : List ℕ)
        → Ends (dead (tabulate (packed_at t) p.clause_count)) (tabulate (packed_at t) p.clause_count) p.atom_count A l a m
        → Ends (dead (standing p)) (standing p) p.atom_count A l a m
    unfolding standing
    packed_ends A l a m f = rw (packed_same p.heads p.bodies p.nafs t p.clause_count k few_clauses) at f
