-- Document 02, U9: "For each literal and each of head, body and not-part, keep the set of clauses as one 64-bit word." Assumes nothing.
use Rattle.std.specs.Prelude.{◌≡◌, ◌&&◌, List, ℕ, ◌+◌, ◌<◌, ltb, get_or}
use Rattle.std.specs.Int.Bits.{bit_or}
use Rattle.sets.specs.Lists.{sift, below}
use Rattle.sets.specs.Words.{bit, mask}
use Rattle.program.specs.Clauses.{Clause, clause_of}

-- The columns lie in one array: 24 words for the heads, 24 for the bodies, 24 for the not-parts, one for each literal.
-- A set of rows is a word, bit k for row k.
abbrev pub head_column : List ℕ → ℕ → ℕ
head_column C L = get_or C L 0

abbrev pub body_column : List ℕ → ℕ → ℕ
body_column C L = get_or C (24 + L) 0

abbrev pub naf_column : List ℕ → ℕ → ℕ
naf_column C L = get_or C (48 + L) 0

-- s is the set of those among the first n words that have the literal L
pub record Column (words : List ℕ) (n L s : ℕ) : Type 0 where
  pub exactly : (k : ℕ) → bit s k ≡ ltb k n && bit (get_or words k 0) L

-- C has the columns of the first n rows of a layout: row k has the literal L in a part exactly where bit k of the part's column of L is set
pub record Columns (at : ℕ → Clause) (n : ℕ) (C : List ℕ) : Type 0 where
  pub heads : (L : ℕ) → L < 24 → (k : ℕ) → bit (head_column C L) k ≡ ltb k n && bit (at k).head L
  pub bodies : (L : ℕ) → L < 24 → (k : ℕ) → bit (body_column C L) k ≡ ltb k n && bit (at k).body L
  pub nafs : (L : ℕ) → L < 24 → (k : ℕ) → bit (naf_column C L) k ≡ ltb k n && bit (at k).naf L

-- the rows that mention the literal L
abbrev pub mentioned_in : List ℕ → ℕ → ℕ
mentioned_in C L = bit_or (bit_or (head_column C L) (body_column C L)) (naf_column C L)

-- ---- the other way
-- the literals in whose columns the row k is, as a word
unfoldable pub again : (ℕ → ℕ) → ℕ → ℕ
again column k = mask (sift (λ L. bit (column L) k) (below 24))

-- the row k, made again from the columns
abbrev pub row_from : List ℕ → ℕ → Clause
row_from C k = clause_of (again (head_column C) k) (again (body_column C) k) (again (naf_column C) k)
