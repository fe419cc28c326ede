-- The clauses of a table in one array of words: 64 heads, 64 bodies, 64 not-parts. Assumes nothing.
use Rattle.std.specs.Prelude.{◌≡◌, List, ℕ, ◌+◌, ◌<◌, get_or}
use Rattle.program.specs.Clauses.{Clause, clause_of, clause_at}

-- the layout of the array: clause i; its first count clauses are `tabulate (packed_at t) count`
abbrev pub packed_at : List ℕ → ℕ → Clause
packed_at t i = clause_of (get_or t i 0) (get_or t (64 + i) 0) (get_or t (128 + i) 0)

-- the array t holds the clauses of three columns
pub record Packs (hs bs ns t : List ℕ) : Type 0 where
  pub same : (i : ℕ) → i < 64 → packed_at t i ≡ clause_at hs bs ns i
