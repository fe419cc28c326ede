-- Document 02, U13: the clauses of a day. Assumes nothing.
use Rattle.std.specs.Prelude.{◌≡◌, Bool, true, false, not, ◌&&◌, ◌||◌, ◌↔◌, List, map, ℕ, ◌≤◌, leb, ltb}
use Rattle.sets.specs.Lists.{◌∈◌, Some, sift}
use Rattle.sets.specs.Words.{bit}
use Rattle.program.specs.declared.Program.{Program}
use Rattle.program.specs.Clauses.{Clause, Row, row_at, rows, standing}

-- "use only clauses whose first day is not after it and whose last day is not before it"; "Clauses of undated books hold on every day"
unfoldable pub is_of_day : Bool → ℕ → ℕ → ℕ → Bool
is_of_day dated f l d = not dated || (leb f d && leb d l)

abbrev pub of_day : Program → ℕ → Row → Bool
of_day p d r = is_of_day p.dated r.first r.last d

-- the clauses of the day, in their order
unfoldable pub clauses : Program → ℕ → List Clause
unfolding rows
clauses p d = map (λ r. r.clause) (sift (of_day p d) (rows p))

-- w is the set of the places whose days hold the day, bit k for place k; a place without a clause has the days 0 and 0
pub record RowsOfDay (p : Program) (d w : ℕ) : Type 0 where
  pub exactly : (k : ℕ) → bit w k ≡ ltb k 64 && of_day p d (row_at p k)

-- The day's clauses in document 02's words: of a dated table those of the rows whose "first day is not after it" and whose "last day is not before it";
-- "Clauses of undated books hold on every day".
pub record OfDay (p : Program) (d : ℕ) : Type 0 where
  pub dated : p.dated ≡ true → (c : Clause) → (c ∈ clauses p d) ↔ Some (λ (r : Row). (c ≡ r.clause) × (r.first ≤ d) × (d ≤ r.last)) (rows p)
  pub undated : p.dated ≡ false → clauses p d ≡ standing p
