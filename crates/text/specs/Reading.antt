-- What a text is read as. Assumes nothing.
use Rattle.std.specs.Prelude.{◌≡◌, cond, List, map, ℕ, ◌+◌, eqb, length, get_or, take, Ok, Err}
use Rattle.program.specs.declared.Program.{Program}
use Rattle.program.specs.Clauses.{Row, row_of}
use Rattle.program.specs.Values.{clause_of_values}
use Rattle.text.specs.declared.ReadWith.{ReadWith}
use Rattle.program.specs.declared.Refusal.{Refusal}
use Rattle.program.specs.Refusals.{refusal_of}
use Rattle.text.specs.Lines.{is_dated, names, clause_lines, row}
use Rattle.text.specs.Tables.{table_of, zero_table}
use Rattle.text.specs.Refusals.{refusal}

-- the reader's answer has a refusal where the call refuses; `ReadWith R` has an R there
abbrev pub Read : Type 0
Read = ReadWith Refusal

-- the row that the numbers of a line are: the clause with the first n of them as its values, and its two days behind them, 0 where the line has none
unfoldable pub row_of_numbers : ℕ → List ℕ → Row
row_of_numbers n vs = row_of (clause_of_values (take n vs)) (get_or vs n 0) (get_or vs (n + 1) 0)

-- the table of a text that no refusal meets: the names on its first line, and for each further line the row of its numbers
unfoldable pub program_of : List ℕ → Program
unfolding row_of_numbers
program_of b = table_of (is_dated b) (names b) (map (row_of_numbers (length (names b))) (map row (clause_lines b)))

-- "A refusal carries its number; the reader's comes with an all-zero table"
abbrev pub refused_with : {R : Type 0} → R → ReadWith R
refused_with r = record { verdict = Err r; program = zero_table }

-- the reader's answer
unfoldable pub read_of : List ℕ → Read
read_of b = cond (eqb (refusal b) 0) (record { verdict = Ok tt; program = program_of b }) (refused_with (refusal_of (refusal b)))

-- the reader takes the text
abbrev pub IsAccepted : List ℕ → Type 0
IsAccepted b = (read_of b).verdict ≡ Ok tt
