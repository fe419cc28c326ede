-- What `fixpoint` says of a table, as a definition of the table, of the day and of the numbers behind the word. Assumes nothing.
use Rattle.std.specs.Prelude.{List, ◌++◌, ℕ, min, take, replicate, Result, Ok, Err}
use Rattle.program.specs.declared.Program.{Program}
use Rattle.program.specs.declared.Outcome.{Outcome}
use Rattle.program.specs.declared.Refusal.{Refusal}
use Rattle.program.specs.Refusals.{number}
use Rattle.wording.specs.Printed.{outcome_word, numbered, refused_line}
use Rattle.listings.specs.Listing.{listing}
use Rattle.fix_answer.specs.Answer as fixed

-- an outcome, with its number where it is a refusal
unfoldable pub by_number : Result Outcome Refusal → Result Outcome ℕ
by_number (Ok o) = Ok o
by_number (Err r) = Err (number r)

-- "If refused it prints only one such line": the text t where the outcome is no refusal
unfoldable pub unless_ended : Result Outcome ℕ → List ℕ → List ℕ
unless_ended (Ok o) t = t
unless_ended (Err n) t = refused_line n

-- ---- fixpoint PLACES CAPACITY: "the names line, model lines, then outcome and models written"
-- each working slice: "capacity to 65,536 words", and more count as 65,536
abbrev pub work_slice : ℕ → List ℕ
work_slice capacity = replicate (min capacity 65536) 0

-- of the words ws that are listed, with the outcome o and m written
unfoldable pub fixed_text : Program → List ℕ → Result Outcome ℕ → ℕ → List ℕ
fixed_text p ws o m = unless_ended o (listing p ws ++ numbered (outcome_word o) m)

-- of a fixpoint on the day d with the lent list l and the working slices w and v
unfoldable pub fixpoint_text : ℕ → List ℕ → List ℕ → List ℕ → Program → List ℕ
fixpoint_text d l w v p =
    let a = fixed.answer_of p d l w v in
    fixed_text p (take a.written (fixed.exit_of p d l w v)) (by_number a.outcome) a.written
