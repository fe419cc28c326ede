-- The lines of a book and the items on them. Assumes nothing.
use Rattle.std.specs.Prelude.{Bool, cond, ℕ, ◌-◌, ◌<◌, length, take}
use mathlib.Core.List.{List, [], ◌∷◌, ◌++◌, map, tail}
use Rattle.lists.specs.Bytes.{pieces, ended, end_of, join}
use Rattle.decimal.specs.Decimal.{decimal, number_of}
use Rattle.program.specs.Names.{ends_dated}

-- ---- written
-- "Each line ends in byte 10." "Items on a line are separated by one space, with none at either end."
unfoldable pub line_of : List (List ℕ) → List ℕ
unfolding join
line_of is = join 32 is ++ 10 ∷ []

-- "a line of names"
unfoldable pub names_line : List (List ℕ) → List ℕ
unfolding line_of
names_line ns = line_of ns

-- "one line per clause with a value for each name in that order"; the report's lines of values 0 to 3 are such lines too
unfoldable pub values_line : List ℕ → List ℕ
unfolding line_of decimal
values_line vs = line_of (map decimal vs)

-- ---- read
-- the lines of a text, each without the byte 10 that ends it
abbrev pub lines : List ℕ → List (List ℕ)
lines b = ended 10 b

-- the items on a line
abbrev pub items : List ℕ → List (List ℕ)
items l = pieces 32 l

-- the text has a line: byte 10 stands in it
unfoldable pub HasLine : List ℕ → Type 0
HasLine b = end_of 10 b 0 < length b

abbrev pub first_line : List (List ℕ) → List ℕ
first_line [] = []
first_line (l ∷ ls) = l

-- the items on the first line
unfoldable pub first_items : List ℕ → List (List ℕ)
first_items b = items (first_line (lines b))

-- document 02, U13: "If a names line ends in "from to" behind at least one other name", the book is dated
unfoldable pub is_dated : List ℕ → Bool
is_dated b = ends_dated (first_items b)

-- the names, on the first line: of a dated book "these two are not names"
unfoldable pub names : List ℕ → List (List ℕ)
names b = cond (is_dated b) (take (length (first_items b) - 2) (first_items b)) (first_items b)

-- the lines of the clauses, behind it
unfoldable pub clause_lines : List ℕ → List (List ℕ)
clause_lines b = tail (lines b)

-- "a decimal number .. without leading zeros": the number up to 65535 that an item is the text of, 65536 for none
unfoldable pub value_of : List ℕ → ℕ
value_of i = number_of 65535 i

-- the numbers on a line
unfoldable pub row : List ℕ → List ℕ
row l = map value_of (items l)
