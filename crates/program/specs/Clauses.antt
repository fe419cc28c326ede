-- The clauses of a table. Assumes nothing.
use Rattle.std.specs.Prelude.{Bool, ◌&&◌, List, ℕ, ◌^◌, ◌<◌, eqb, get_or}
use Rattle.sets.specs.Lists.{tabulate}
use Rattle.program.specs.declared.Program.{Program}

-- "A clause is thus head, body and not-part, three sets of literals": each is a word.
pub record Clause : Type 0 where
  pub head : ℕ
  pub body : ℕ
  pub naf : ℕ

abbrev pub clause_of : ℕ → ℕ → ℕ → Clause
clause_of h b n = record { head = h; body = b; naf = n }

-- Clauses in arrays are a layout, which gives the clause at each place: `tabulate layout count` are the first count of them.
-- The layout of three columns, heads, bodies and not-parts:
abbrev pub clause_at : List ℕ → List ℕ → List ℕ → ℕ → Clause
clause_at hs bs ns k = clause_of (get_or hs k 0) (get_or bs k 0) (get_or ns k 0)

-- a clause over m literals: its words lie below 2 ^ m
pub record Below (m : ℕ) (c : Clause) : Type 0 where
  pub heads : c.head < 2 ^ m
  pub bodies : c.body < 2 ^ m
  pub nafs : c.naf < 2 ^ m

-- document 02, U13: a row is a clause with "a first day" and "its last"; both are 0 where the table's book was not dated
pub record Row : Type 0 where
  pub clause : Clause
  pub first : ℕ
  pub last : ℕ

abbrev pub row_of : Clause → ℕ → ℕ → Row
row_of c f l = record { clause = c; first = f; last = l }

-- the row at each place of a table's five columns
abbrev pub row_at : Program → ℕ → Row
row_at p k = row_of (clause_at p.heads p.bodies p.nafs k) (get_or p.firsts k 0) (get_or p.lasts k 0)

-- the table's rows, numbered from 0 as they stand in the book
unfoldable pub rows : Program → List Row
unfolding tabulate
rows p = tabulate (row_at p) p.clause_count

-- the clauses of all rows, whatever their days
unfoldable pub standing : Program → List Clause
unfolding tabulate
standing p = tabulate (clause_at p.heads p.bodies p.nafs) p.clause_count

-- equal clauses have equal head, body and not-part
abbrev pub is_equal : Clause → Clause → Bool
is_equal c d = eqb c.head d.head && eqb c.body d.body && eqb c.naf d.naf

-- document 02, U13: "equal clauses have equal days too"
abbrev pub is_equal_row : Row → Row → Bool
is_equal_row r s = is_equal r.clause s.clause && eqb r.first s.first && eqb r.last s.last

-- the clause without any literal: all three parts are empty
abbrev pub no_clause : Clause
no_clause = clause_of 0 0 0

abbrev pub is_empty : Clause → Bool
is_empty c = is_equal c no_clause

abbrev pub no_row : Row
no_row = row_of no_clause 0 0
