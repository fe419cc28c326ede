-- Document 02, U5: "One call holds a clause in a separate place of the table and says whether an equal clause stands already."; U13 gives it days. Assumes nothing.
use Rattle.std.specs.Prelude.{Bool, cond, not, ◌&&◌, List, [], ◌∷◌, ℕ, eqb, ltb, Result, Ok, Err}
use Rattle.sets.specs.Lists.{any_of}
use Rattle.program.specs.declared.Program.{Program}
use Rattle.program.specs.declared.Refusal.{Refusal}
use Rattle.program.specs.Clauses.{Clause, Row, row_of, is_equal_row, rows}
use Rattle.program.specs.Held.{in_place, holding}
use Rattle.program.specs.Refusals.{lowest, refusal_of}
use Rattle.program.specs.Valid.{is_clause, valid}
use Rattle.held.specs.declared.HoldStatus.{HoldStatus}
use Rattle.held.specs.declared.HoldStatus.TheVariants.{New, Equal}
use Rattle.held.specs.declared.HoldAnswer.{HoldAnswer}

-- document 02, U13: "On an undated table the days given are passed over and held as 0."
unfoldable pub day_held : Program → ℕ → ℕ
day_held p d = cond p.dated d 0

-- the row that is held for a clause and the two days given: "A held clause of a dated table carries its two days"
abbrev pub held_as : Program → Clause → ℕ → ℕ → Row
held_as p c f l = row_of c (day_held p f) (day_held p l)

-- "an equal clause stands already"; U13: "equal clauses have equal days too"
unfoldable pub stands : Row → List Row → Bool
stands r rs = any_of (is_equal_row r) rs

-- "on holding, after 9, 16 if one is held, then 17 if the clause is empty or uses a bit outside the names, then 18 if 64 clauses stand"
-- U13: "22, .. behind 18 in holding, if in a dated book or table a first day is after its last"
abbrev pub hold_refusals : Program → Clause → ℕ → ℕ → List (ℕ × Bool)
hold_refusals p c f l =
    (9, not (valid p)) ∷ (16, p.held.in_use) ∷ (17, not (is_clause p.atom_count c)) ∷ (18, eqb p.clause_count 64) ∷ (22, p.dated && ltb l f) ∷ []

unfoldable pub hold_refusal : Program → Clause → ℕ → ℕ → ℕ
hold_refusal p c f l = lowest (hold_refusals p c f l)

abbrev pub answer : Result HoldStatus Refusal → Program → HoldAnswer
answer s p = record { status = s; program = p }

-- the answer for every table, every clause and any two days; "A refused call gives the table back as it came."
unfoldable pub hold_of : Program → Clause → ℕ → ℕ → HoldAnswer
hold_of p c f l = cond (eqb (hold_refusal p c f l) 0)
    (answer (Ok (cond (stands (held_as p c f l) (rows p)) Equal New)) (holding p (in_place (held_as p c f l))))
    (answer (Err (refusal_of (hold_refusal p c f l))) p)
