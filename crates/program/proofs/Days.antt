-- The rows of a day, gathered as a set; the table of just those has the clauses of the day. Assumes nothing.
use mathlib.Core.Path.{◌≡◌, refl, sym, ap, ap₂, ◌∙◌, subst}
use mathlib.Core.Bool.{Bool, true, false, ◌&&◌}
use mathlib.Core.Logic.{◌↔◌}
use mathlib.Core.List.{List, [], ◌∷◌, ◌++◌, map, map-append, append-nil}
use Prim.Native.Nat.{ℕ, ◌≤◌, ◌<◌}
use native.Mathlib.Omega.{arith}
use lib.Dec.{leb}
use lib.ListN.{length, get_or}
use borrow.Author.Tests.{lt-ltb, leb-true, le-leb}
use Rattle.sets.specs.Lists.{◌∈◌, sift}
use Rattle.sets.specs.Words.{bit}
use Rattle.sets.proofs.Tests.{both_true, and_is_true}
use Rattle.sets.proofs.Lists.{in_map, map_in, sift_in, sift_out, sift-append, length-tabulate, get_d_tabulate}
use Rattle.sets.proofs.Gathering.{Gathering, gather_done}
use Rattle.program.specs.declared.Program.{Program}
use Rattle.program.specs.Clauses.{Row, row_at, rows, standing, no_row}
use Rattle.program.specs.Days.{is_of_day, of_day, clauses, RowsOfDay, OfDay}
use Rattle.program.specs.Only.{only_of}
use Rattle.program.specs.Valid.{valid}
use Rattle.program.proofs.Validity.{valid_clauses}
use Rattle.program.proofs.Chosen.{chosen_by, only_rows, only_valid, standing_rows}

-- ---- all places are looked at
pub day_gathered : (p : Program) (d k w : ℕ) → Gathering (λ i. of_day p d (row_at p i)) 64 k w → 64 ≤ k → RowsOfDay p d w
day_gathered p d k w s h = record { exactly = gather_done (λ i. of_day p d (row_at p i)) 64 k w s h }

-- ---- the table of them
pub length_rows : (p : Program) → length (rows p) ≡ p.clause_count
unfolding rows
length_rows p = length-tabulate (row_at p) p.clause_count

pub row_is : (p : Program) (k : ℕ) → k < p.clause_count → get_or (rows p) k no_row ≡ row_at p k
unfolding rows
row_is p k h = get_d_tabulate (row_at p) p.clause_count k no_row h

-- it is valid, it has the names of the table, and the clauses that stand in it are the clauses of the day
pub record DayTable (p : Program) (d : ℕ) (q : Program) : Type 0 where
  pub is_valid_lem : valid q ≡ true
  pub atoms : q.atom_count ≡ p.atom_count
  pub standing_are : standing q ≡ clauses p d

pub day_table : (p : Program) (d w : ℕ) → valid p ≡ true → RowsOfDay p d w → DayTable p d (only_of p w)
unfolding only_of clauses
day_table p d w v s = record { is_valid_lem = only_valid p v w; atoms = refl; standing_are = of_day_lem }
  where
    at : (k : ℕ) → k < length (rows p) → bit w k ≡ of_day p d (get_or (rows p) k no_row)
    at k h =
        let l : k < p.clause_count = omega (arith, h, length_rows p) in
        s.exactly k ∙ ap (λ b. b && of_day p d (row_at p k)) (lt-ltb k 64 (omega (arith, (valid_clauses p v).short))) ∙ ap (of_day p d) (sym (row_is p k l))

    of_day_lem : standing (only_of p w) ≡ clauses p d
    of_day_lem =
        standing_rows (only_of p w)
        ∙ ap (map (λ r. r.clause)) (only_rows p w ∙ chosen_by (bit w) (of_day p d) (rows p) at)

-- ---- what is of the day
all_pass : {A : Type 0} (t : A → Bool) (l : List A) → ((x : A) → t x ≡ true) → sift t l ≡ l
unfolding sift
all_pass t [] h = refl
all_pass t (x ∷ l) h = rw (h x, all_pass t l h)

-- the test of a row of a dated table
pub in_days : (p : Program) (d : ℕ) → p.dated ≡ true → (r : Row) → (of_day p d r ≡ true) ↔ ((r.first ≤ d) × (d ≤ r.last))
unfolding is_of_day
in_days p d e r = (
  λ t. let b = both_true (leb r.first d) (leb d r.last) (sym (rw e) ∙ t) in (leb-true _ _ b.0, leb-true _ _ b.1),
  λ h. rw e (and_is_true _ _ (le-leb _ _ h.0) (le-leb _ _ h.1)),
)

pub of_day_exactly : (p : Program) (d : ℕ) → OfDay p d
unfolding is_of_day clauses
of_day_exactly p d = record {
  dated = λ e c. (
    λ m. let s = map_in (λ (r : Row). r.clause) c (sift (of_day p d) (rows p)) m in
        let t = sift_out (of_day p d) (rows p) s.0 s.1 in
        let b = (in_days p d e s.0).0 t.1 in
        (s.0, t.0, (s.2, b.0, b.1)),
    λ s. subst (λ z. z ∈ map (λ (r : Row). r.clause) (sift (of_day p d) (rows p))) (sym s.2.0)
        (in_map (λ (r : Row). r.clause) s.0 (sift (of_day p d) (rows p)) (sift_in (of_day p d) (rows p) s.0 s.1 ((in_days p d e s.0).1 (s.2.1, s.2.2)))),
  );
  undated = λ e. ap (map (λ r. r.clause)) (all_pass (of_day p d) (rows p) (λ r. rw e)) ∙ sym (standing_rows p);
}

-- ---- a row more
module _ (p q : Program) (r : Row) (same : q.dated ≡ p.dated) (more : rows q ≡ rows p ++ (r ∷ [])) (d : ℕ) where
  clauses_with : clauses q d ≡ clauses p d ++ map (λ (s : Row). s.clause) (sift (of_day p d) (r ∷ []))
  unfolding clauses
  clauses_with =
      ap₂ (λ (b : Bool) (R : List Row). map (λ (s : Row). s.clause) (sift (λ (s : Row). is_of_day b s.first s.last d) R)) same more
      ∙ ap (map (λ (s : Row). s.clause)) (sift-append (of_day p d) (rows p) (r ∷ []))
      ∙ map-append (λ (s : Row). s.clause) (sift (of_day p d) (rows p)) (sift (of_day p d) (r ∷ []))

  pub clauses_more : of_day p d r ≡ true → clauses q d ≡ clauses p d ++ (r.clause ∷ [])
  unfolding sift
  clauses_more t = rw t at clauses_with

  pub clauses_as_before : of_day p d r ≡ false → clauses q d ≡ clauses p d
  unfolding sift
  clauses_as_before t = rw t at clauses_with ∙ append-nil (clauses p d)
