-- What is read from a clause line. Assumes nothing.
use Rattle.std.specs.Prelude.{Bool, cond, ◌&&◌, List, [], ◌∷◌, ℕ, zero, suc, ◌+◌, ◌%◌, eqb, ltb, length, get_or, take, drop}
use Rattle.sets.specs.Lists.{every}
use Rattle.program.specs.Values.{head_of, body_of, naf_of}
use Rattle.text.specs.Lines.{row}
use Rattle.text.specs.Refusals.{is_value, is_day}
use Rattle.text_row.specs.declared.Row.{Row}
use Rattle.text_row.specs.declared.ClauseLine.{ClauseLine}

-- the first n numbers of a row, zero where it has fewer
unfoldable pub first : ℕ → List ℕ → List ℕ
first zero vs = []
first (suc n) vs = get_or vs 0 0 ∷ first n (drop 1 vs)

-- the row of a line: how many items stand on it, and the numbers that the first fourteen are
unfoldable pub row_of : List ℕ → Row
row_of l = record { count = length (row l); values = first 14 (row l) }

-- how many numbers stand on a line for n names: document 02, U13: where the book is dated, "each clause line ends in two day numbers"
unfoldable pub wanted : Bool → ℕ → ℕ
wanted dated n = n + cond dated 2 0

-- a number as a day of 16 bits, which it is up to 65535
abbrev pub day_of : ℕ → ℕ
day_of v = v % 65536

-- "a value for each name", "only zeros", and "A clause is thus head, body and not-part": what a row says for n names; document 02, U13: its two days stand behind them
unfoldable pub weighed : Bool → ℕ → Row → ClauseLine
unfolding wanted
weighed dated n r = record {
  holds = every is_value (take n r.values) && (is_day (get_or r.values n 0) && is_day (get_or r.values (n + 1) 0) && eqb r.count (wanted dated n));
  zero = every (eqb 0) (take n r.values) && eqb r.count (wanted dated n);
  reversed = dated && ltb (get_or r.values (n + 1) 0) (get_or r.values n 0);
  head = head_of (take n r.values);
  body = body_of (take n r.values);
  naf = naf_of (take n r.values);
  first = day_of (get_or r.values n 0);
  last = day_of (get_or r.values (n + 1) 0);
}

-- what a line says for n names
unfoldable pub line_read : Bool → ℕ → List ℕ → ClauseLine
line_read dated n l = weighed dated n (row_of l)
