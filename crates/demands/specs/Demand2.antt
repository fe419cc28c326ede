-- Demand 2: "A book is read as exactly its clauses and written back gives the same bytes;
-- a candidate is called p-stable exactly when Definition 3.1 of Sakama and Inoue says so." Assumes nothing.
use Rattle.program.specs.declared.Refusal.{Refusal}
use Rattle.std.specs.Prelude.{◌≡◌, ◌↔◌, true, cond, List, [], ◌∷◌, map, ◌++◌, ℕ, ◌≤◌, length, take, drop, Ok, Result}
use Rattle.sets.specs.Lists.{tabulate}
use Rattle.sets.specs.Words.{bit}
use Rattle.program.specs.declared.Program.{Program}
use Rattle.program.specs.Clauses.{rows}
use Rattle.program.specs.Days.{clauses}
use Rattle.program.specs.Held.{released}
use Rattle.program.specs.Names.{names_of, ends_dated}
use Rattle.program.specs.Values.{is_word, sum_for}
use Rattle.program.specs.Valid.{valid, Sized}
use Rattle.text.specs.Lines.{lines, items, first_line, clause_lines, row}
use Rattle.text.specs.Render.{book_items}
use Rattle.text.specs.Reading.{Read, row_of_numbers, read_of}
use Rattle.text.specs.Writing.{Writes, Written}
use Rattle.semantics.specs.Definitions.{PStable}
use Rattle.semantics.specs.Interpretations.{rules_of}
use Rattle.stable.specs.declared.Checked.{Checked}
use Rattle.stable.specs.declared.Checked.TheVariants.{Stable}
use Rattle.stable.specs.Check.{Checks}

-- ---- "A book is read as exactly its clauses": the table p of the text b
pub record ReadsExactly (b : List ℕ) (p : Program) : Type 0 where
  -- document 02, U13: it is dated where the "names line ends in "from to" behind at least one other name"
  pub dated_read : p.dated ≡ ends_dated (items (first_line (lines b)))
  -- its names are the items of the first line, but for the two words of a dated book, which "are not names"
  pub names_read : book_items p.dated (names_of p) ≡ items (first_line (lines b))
  -- its rows are the further lines, each read by its values and its days, in their order
  pub rows_read : rows p ≡ map (row_of_numbers (length (names_of p))) (map row (clause_lines b))
  -- by membership: each value on those lines is the sum, 1 to 32, of where its name stands in the clause, and behind the values of a dated book stand the two days
  pub values_read : map row (clause_lines b) ≡ map (λ r. tabulate (sum_for r.clause) (length (names_of p)) ++ cond p.dated (r.first ∷ r.last ∷ []) []) (rows p)

-- ---- "and written back gives the same bytes": the text b at the start of the slice that is lent, with its length for the answer
pub record WritesBack (b : List ℕ) (out : List ℕ) (a : Written) (exit : List ℕ) : Type 0 where
  pub length_told : a ≡ Ok (length b)
  pub bytes : exit ≡ b ++ drop (length b) out

-- ---- demand 2, of every call that meets its contract, as every call is proved to
pub record Demand2 : Type 0 where
  -- "A book is read as exactly its clauses"
  pub reads : (b : List ℕ) (r : Read) → r ≡ read_of b → r.verdict ≡ Ok tt → ReadsExactly b r.program
  -- "and written back gives the same bytes", wherever they have room
  pub writes_back : (b : List ℕ) (r : Read) → r ≡ read_of b → r.verdict ≡ Ok tt
      → (out : List ℕ) (a : Written) (exit : List ℕ) → Writes r.program out a exit → length b ≤ length out → WritesBack b out a exit
  -- and what is written is read as the very table, with nothing held; document 02, U5: "Reading a written table therefore gives it without the held clause."
  -- (`Sized` is what a table's type gives: the lengths of its arrays, and that days are 16-bit numbers)
  pub reads_back : (p : Program) → Sized p → (out : List ℕ) (a : Written) (exit : List ℕ) → Writes p out a exit → (n : ℕ) → a ≡ Ok n
      → (r : Read) → r ≡ read_of (take n exit) → (r.verdict ≡ Ok tt) × (r.program ≡ released p)
  -- "a candidate is called p-stable exactly when Definition 3.1 of Sakama and Inoue says so", of the clauses of the day
  pub stable_exactly : (p : Program) (d w : ℕ) (r : Result Checked Refusal) → Checks p d w r
      → (r ≡ Ok Stable) ↔ ((valid p ≡ true) × (is_word p.atom_count w ≡ true) × PStable (rules_of (clauses p d)) (bit w))
