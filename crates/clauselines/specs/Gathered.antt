-- What is read from all clause lines of a text. Assumes nothing.
use Rattle.std.specs.Prelude.{not, List, map, ℕ, length}
use Rattle.sets.specs.Lists.{any_of}
use Rattle.lists.specs.Bytes.{padded}
use Rattle.text.specs.Lines.{is_dated, names, clause_lines}
use Rattle.text_row.specs.declared.ClauseLine.{ClauseLine}
use Rattle.text_row.specs.Rows.{line_read}
use Rattle.clauselines.specs.declared.ClauseLines.{ClauseLines}

-- what some lines say: "A clause line breaks the form", "A clause line has only zeros", document 02, U13: "a first day is after its last",
-- and the columns of a table, "unused places in it hold zero"
unfoldable pub gathered : List ClauseLine → ClauseLines
gathered ls = record {
  broken = any_of (λ l. not l.holds) ls;
  zeros = any_of (λ l. l.zero) ls;
  reversed = any_of (λ l. l.reversed) ls;
  count = length ls;
  heads = padded 64 (map (λ l. l.head) ls);
  bodies = padded 64 (map (λ l. l.body) ls);
  nafs = padded 64 (map (λ l. l.naf) ls);
  firsts = padded 64 (map (λ l. l.first) ls);
  lasts = padded 64 (map (λ l. l.last) ls);
}

-- what the clause lines of a text say
unfoldable pub clauses_of : List ℕ → ClauseLines
clauses_of b = gathered (map (line_read (is_dated b) (length (names b))) (clause_lines b))
