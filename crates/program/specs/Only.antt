-- The table of some of a table's rows. Assumes nothing.
use Rattle.std.specs.Prelude.{◌≡◌, Bool, ◌&&◌, List, map, ℕ, ltb, length, get_or}
use Rattle.sets.specs.Lists.{sift, below}
use Rattle.sets.specs.Words.{Set, bit}
use Rattle.lists.specs.Bytes.{padded}
use Rattle.program.specs.declared.Program.{Program}
use Rattle.program.specs.Clauses.{Row, rows, no_row}
use Rattle.program.specs.Held.{nothing_held}

-- the rows whose number is in S, in their order
unfoldable pub chosen : Set ℕ → List Row → List Row
chosen S R = map (λ k. get_or R k no_row) (sift S (below (length R)))

-- the table with so many rows, in these columns, and nothing held
abbrev pub with_columns : Program → (count : ℕ) (hs bs ns fs ls : List ℕ) → Program
with_columns p count hs bs ns fs ls = record {
  atom_count = p.atom_count;
  atom_names = p.atom_names;
  clause_count = count;
  heads = hs;
  bodies = bs;
  nafs = ns;
  dated = p.dated;
  firsts = fs;
  lasts = ls;
  held = nothing_held;
}

-- the table with these rows instead, and zeros behind them
unfoldable pub with_rows : Program → List Row → Program
with_rows p R = with_columns p (length R) (padded 64 (map (λ r. r.clause.head) R)) (padded 64 (map (λ r. r.clause.body) R)) (padded 64 (map (λ r. r.clause.naf) R))
    (padded 64 (map (λ r. r.first) R)) (padded 64 (map (λ r. r.last) R))

-- the table of just the rows of a set, one 64-bit word: bit k for row k
unfoldable pub only_of : Program → ℕ → Program
unfolding chosen with_rows
only_of p w = with_rows p (chosen (bit w) (rows p))

-- ---- column by column
-- row k is one of the first count, and its bit is set
unfoldable pub is_chosen : ℕ → ℕ → ℕ → Bool
is_chosen w count k = ltb k count && bit w k

-- the numbers of those rows, rising
unfoldable pub numbers : ℕ → ℕ → List ℕ
unfolding is_chosen
numbers w count = sift (is_chosen w count) (below 64)

-- what stands at the places ks of a column, and zeros behind
unfoldable pub column_of : List ℕ → List ℕ → List ℕ
column_of xs ks = padded 64 (map (λ k. get_or xs k 0) ks)

-- the words and how many they are: those at the places ks of the column xs
pub record Picks (xs ks words : List ℕ) (count : ℕ) : Type 0 where
  pub all : words ≡ column_of xs ks
  pub number : count ≡ length ks
