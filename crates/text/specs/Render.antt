-- The text of a program. Assumes nothing.
use Rattle.std.specs.Prelude.{Bool, cond, ℕ}
use mathlib.Core.List.{List, [], ◌∷◌, ◌++◌, map, flat_map}
use Rattle.program.specs.declared.Program.{Program}
use Rattle.program.specs.Clauses.{Row, rows}
use Rattle.program.specs.Values.{clause_values}
use Rattle.program.specs.Names.{names_of, from_word, to_word}
use Rattle.text.specs.Lines.{names_line, values_line}

-- document 02, U13: the names line of a dated book "ends in "from to""; "undated books are written as undated"
unfoldable pub book_items : Bool → List (List ℕ) → List (List ℕ)
book_items dated ns = cond dated (ns ++ from_word ∷ to_word ∷ []) ns

-- "A book is text: a line of names, then one line per clause with a value for each name in that order."
unfoldable pub book_text : Bool → List (List ℕ) → List (List ℕ) → List ℕ
unfolding book_items
book_text dated ns vss = names_line (book_items dated ns) ++ flat_map values_line vss

-- the numbers on the line of a row: its values, and of a dated book "each clause line ends in two day numbers"
unfoldable pub row_numbers : Bool → ℕ → Row → List ℕ
row_numbers dated n r = clause_values n r.clause ++ cond dated (r.first ∷ r.last ∷ []) []

-- the numbers of a program's rows
unfoldable pub numbers_of : Program → List (List ℕ)
unfolding row_numbers
numbers_of p = map (row_numbers p.dated p.atom_count) (rows p)

-- the text of a program
unfoldable pub render : Program → List ℕ
render p = book_text p.dated (names_of p) (numbers_of p)
