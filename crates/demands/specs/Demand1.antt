-- Demand 1: "Bad input is refused by the lowest number of documents 01 and 02 that applies, with lent lists and text untouched;
-- every other input is accepted; every call ends."
-- That every call ends is no claim here: a function is proved only together with a measure that falls, and nothing else is built. Assumes nothing.
use Rattle.std.specs.Prelude.{◌≡◌, ◌↔◌, Bool, true, false, List, [], ◌∷◌, ◌++◌, map, ℕ, ◌*◌, ◌≤◌, ◌<◌, length, Result, Ok, Err}
use Rattle.sets.specs.Lists.{Each}
use Rattle.lists.specs.Bytes.{one_if}
use Rattle.program.specs.declared.Program.{Program}
use Rattle.program.specs.Clauses.{Clause, Below, no_clause}
use Rattle.program.specs.Held.{held_clause, nothing_held, released}
use Rattle.program.specs.Valid.{valid, Sized}
use Rattle.program.specs.declared.Refusal.{Refusal}
use Rattle.program.specs.Refusals.{Applies, Lowest, Verdict, number, verdict_of}
use Rattle.text.specs.Refusals as reading
use Rattle.text.specs.Reading.{Read, read_of}
use Rattle.text.specs.Writing.{Written, write_refusals, written_length, Writes}
use Rattle.stable.specs.declared.Checked.{Checked}
use Rattle.stable.specs.Check.{Checks}
use Rattle.stable.specs.Check as checking
use Rattle.summary.specs.declared.Summary.{Summary}
use Rattle.summary.specs.Summary.{summary_of}
use Rattle.summary.specs.Summary as summing
use Rattle.held.specs.declared.HoldAnswer.{HoldAnswer}
use Rattle.held.specs.declared.ClearAnswer.{ClearAnswer}
use Rattle.held.specs.Holding.{hold_refusals, hold_of}
use Rattle.held.specs.Clearing.{clear_refusals, keep_of, release_of}
use Rattle.tree.specs.Answer.{SearchAnswer, Searches}
use Rattle.tree.specs.Answer as searching
use Rattle.fix_answer.specs.Answer.{FixpointAnswer, room_of, Fixes}
use Rattle.fix_answer.specs.Answer as fixing

-- ---- what demand 1 looks at in a call
-- a slice that was lent: what it held when the call was made, and what it held when it returned
pub record Lent : Type 0 where
  pub entry : List ℕ
  pub exit : List ℕ

pub record Told : Type 1 where
  -- the contract of the call
  pub promised : Type 0
  -- the numbers that the call meets, each with the test of its sentence
  pub meets : List (ℕ × Bool)
  -- "A refusal carries its number": whether its answer is a refusal, and by which
  pub verdict : Verdict
  -- the numbers that it shows and that a refusal shows as 0: counts, values, the entries of a table
  pub shows : List ℕ
  -- the lists and texts that it may write; the working slices
  pub lent : List Lent
  pub free : List Lent
  -- the table that came and the one that is given back, where a call answers with one
  pub tables : List (Program × Program)

-- every number of a table
abbrev pub numbers_of : Program → List ℕ
numbers_of p =
    p.atom_count ∷ p.clause_count ∷ one_if p.dated ∷ one_if p.held.in_use ∷ p.held.head ∷ p.held.body ∷ p.held.naf ∷ p.held.first ∷ p.held.last
    ∷ (p.atom_names ++ (p.heads ++ (p.bodies ++ (p.nafs ++ (p.firsts ++ p.lasts)))))

-- ---- a call that was made: what it was handed, what it answered, and what it was lent. A text that is read, and a list of words that is summed up, cannot be written.
pub data Call : Type 0 where
  read : (text : List ℕ) → Read → Call
  write : Program → (out : Lent) → Written → Call
  check : Program → (day word : ℕ) → Result Checked Refusal → Call
  summarize : Program → (words : List ℕ) → Summary → Call
  search : Program → (day limit : ℕ) (models : Lent) → SearchAnswer → Call
  fixpoint : Program → (day : ℕ) (models first second : Lent) → FixpointAnswer → Call
  hold : Program → (clause : Clause) (first last : ℕ) → HoldAnswer → Call
  keep : Program → ClearAnswer → Call
  release : Program → ClearAnswer → Call

-- in this order: the contract, the numbers that are met, the verdict, the numbers that are shown, the slices that may be written, the working slices
abbrev told_by : Type 0 → List (ℕ × Bool) → Verdict → List ℕ → List Lent → List Lent → Told
told_by c ts v ns l f = record { promised = c; meets = ts; verdict = v; shows = ns; lent = l; free = f; tables = [] }

-- of a call that is lent nothing and answers with a table: the table that came, and the one that is given back
abbrev pub told_back : Type 0 → List (ℕ × Bool) → Verdict → Program → Program → Told
told_back c ts v p q = record { promised = c; meets = ts; verdict = v; shows = []; lent = []; free = []; tables = (p, q) ∷ [] }

-- "The reader meets 1 to 8, check and summary 9 and 10, the search 9, the fixpoint 9, 11, 12, the writer 9 and 13.";
-- document 02, U5: "on holding, after 9, 16 .., then 17 .., then 18 .."; keeping and releasing meet 9; U13: "22, behind 8 in reading and behind 18 in holding"
unfoldable pub told : Call → Told
told (read b r) = told_by (r ≡ read_of b) (reading.refusals b) r.verdict (numbers_of r.program) [] []
told (write p o r) = told_by (Writes p o.entry r o.exit) (write_refusals p o.entry) (verdict_of r) (written_length r ∷ []) (o ∷ []) []
told (check p d w r) = told_by (Checks p d w r) (checking.refusals p w) (verdict_of r) [] [] []
told (summarize p ws r) = told_by (r ≡ summary_of p ws) (summing.refusals p ws) r.verdict (r.occurring ++ map one_if r.settled) [] []
told (search p d A l r) = told_by (Searches p d A l.entry r l.exit) (searching.refusals p) (verdict_of r.outcome) (r.written ∷ r.visited ∷ []) (l ∷ []) []
told (fixpoint p d l w v r) =
    told_by (Fixes p d l.entry w.entry v.entry r l.exit w.exit v.exit) (fixing.refusals p d (room_of w.entry v.entry))
    (verdict_of r.outcome) (r.written ∷ []) (l ∷ []) (w ∷ v ∷ [])
told (hold p c f l r) = told_back (r ≡ hold_of p c f l) (hold_refusals p c f l) (verdict_of r.status) p r.program
told (keep p r) = told_back (r ≡ keep_of p) (clear_refusals p) (verdict_of r.status) p r.program
told (release p r) = told_back (r ≡ release_of p) (clear_refusals p) (verdict_of r.status) p r.program

-- ---- demand 1 of one call
pub record Answers (c : Told) : Type 0 where
  -- "Bad input is refused by the lowest number of documents 01 and 02 that applies"
  pub refused : (r : Refusal) → (c.verdict ≡ Err r) ↔ Lowest c.meets (number r)
  -- and each number that it meets is that of a refusal
  pub known : (n : ℕ) → Applies c.meets n → (r : Refusal) × (number r ≡ n)
  -- "every other input is accepted"
  pub accepted : (c.verdict ≡ Ok tt) ↔ ((n : ℕ) → Applies c.meets n → ⊥)
  -- "with lent lists and text untouched"
  pub untouched : (r : Refusal) → c.verdict ≡ Err r → Each (λ (s : Lent). s.exit ≡ s.entry) c.lent
  -- document 02, U5: "A refused call gives the table back as it came."
  pub given_back : (r : Refusal) → c.verdict ≡ Err r → Each (λ (t : Program × Program). t.1 ≡ t.0) c.tables
  -- "counts are 0"; "an all-zero table"; "no value for any name and none settled"
  pub nothing : (r : Refusal) → c.verdict ≡ Err r → Each (λ x. x ≡ 0) c.shows
  -- "What the working slices hold afterwards is free: any words."; each keeps its length
  pub lengths : Each (λ (s : Lent). length s.exit ≡ length s.entry) c.free

-- ---- what a table may hold
pub record MayHold (p : Program) : Type 0 where
  -- document 02, U5: "a table may hold a clause if that clause is neither empty nor outside the names and fewer than 64 stand"
  pub clause : p.held.in_use ≡ true
      → (held_clause p.held ≡ no_clause → ⊥) × Below (2 * p.atom_count) (held_clause p.held) × (p.clause_count < 64)
  -- document 02, U13: "A held clause of a dated table carries its two days, which 9 wants in order"; "On an undated table the days given are passed over and held as 0."
  pub days : p.held.in_use ≡ true → (p.held.first ≤ p.held.last) × (p.dated ≡ false → (p.held.first ≡ 0) × (p.held.last ≡ 0))
  -- "unused places in it hold zero"
  pub nothing : p.held.in_use ≡ false → p.held ≡ nothing_held

-- the reader gives this table for some text
abbrev pub Given : Program → Type 0
Given p = (b : List ℕ) × ((read_of b).verdict ≡ Ok tt) × ((read_of b).program ≡ p)

-- ---- demand 1
pub record Demand1 : Type 0 where
  -- of every call that meets its contract, as every call is proved to
  pub answers : (c : Call) → (told c).promised → Answers (told c)
  -- what 9 asks: "A table handed to a later call is none that the reader could give.", but for what it may hold
  -- (`Sized` is what a table's type gives: the lengths of its arrays, and that days are 16-bit numbers)
  pub nine : (p : Program) → Sized p → (valid p ≡ true) ↔ (Given (released p) × MayHold p)
  -- what the reader gives is exactly the valid tables with nothing held
  pub given : (p : Program) → Sized p → ((valid p ≡ true) × (p.held.in_use ≡ false)) ↔ Given p
