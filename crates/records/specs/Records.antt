-- A file of records: where the parts of a record stand, and the numbers of its line. Assumes nothing.
use Rattle.std.specs.Prelude.{◌≡◌, List, ℕ, ◌+◌, ◌-◌, ◌≤◌, ◌<◌, min, ltb, length, take, drop, Option, Some, None}
use Rattle.lists.specs.Bytes.{end_of}
use Rattle.decimal.specs.Decimal.{parsed_of}
use Rattle.records.specs.declared.Record.{Record}
use Rattle.records.specs.declared.Number as numbered

-- the place behind the end of a part, but none behind the end of all
unfoldable pub behind_of : ℕ → ℕ → ℕ
behind_of n e = min (e + 1) n

-- the label up to its line's end, the text up to an equals sign, the numbers up to their line's end; whole where that end is there
unfoldable pub record_of : List ℕ → ℕ → Record
record_of file at =
    let n = length file in
    let label_end = end_of 10 file at in
    let text = behind_of n label_end in
    let text_end = end_of 61 file text in
    let line = behind_of n text_end in
    let line_end = end_of 10 file line in
    record { label_end = label_end; text = text; text_end = text_end; line = line; line_end = line_end; next = behind_of n line_end; whole = ltb line_end n }

-- the record that begins at `at` is r, whose parts lie within the file in this order; the next begins behind `at`
pub record RecordAt (file : List ℕ) (at : ℕ) (r : Record) : Type 0 where
  pub is : r ≡ record_of file at
  pub label : at ≤ r.label_end
  pub label_in : r.label_end ≤ length file
  pub text : r.text ≤ r.text_end
  pub text_in : r.text_end ≤ length file
  pub line : r.line ≤ r.line_end
  pub line_in : r.line_end ≤ length file
  pub on : at < r.next
  pub next_in : r.next ≤ length file

-- the number that a text is, the largest of 64 bits where it is none
unfoldable pub value_of : Option ℕ → ℕ
value_of (Some v) = v
value_of None = 18446744073709551615

-- the number from `at` up to a space or the line's end
unfoldable pub number_of : List ℕ → ℕ → numbered.Number
unfolding value_of
number_of line at =
    let end = end_of 32 line at in
    record { value = value_of (parsed_of 18446744073709551615 (take (end - at) (drop at line))); next = behind_of (length line) end }

-- the number of a line that begins at `at` is r, and the next begins within the line
pub record NumberAt (line : List ℕ) (at : ℕ) (r : numbered.Number) : Type 0 where
  pub is : r ≡ number_of line at
  pub next_in : r.next ≤ length line
