-- What `hold` and `keep` say of a table, as a definition of the table, of the clause and of its days. Assumes nothing.
use Rattle.std.specs.Prelude.{List, [], ◌∷◌, ℕ, Result, Ok, Err}
use Rattle.program.specs.declared.Program.{Program}
use Rattle.program.specs.Clauses.{Clause}
use Rattle.text.specs.Lines.{line_of}
use Rattle.text.specs.Render.{render}
use Rattle.wording.specs.Printed.{refused_line}
use Rattle.held.specs.declared.HoldStatus.{HoldStatus}
use Rattle.held.specs.declared.HoldStatus.TheVariants.{New, Equal}
use Rattle.program.specs.declared.Refusal.{Refusal}
use Rattle.program.specs.Refusals.{number, verdict_of}
use Rattle.held.specs.Holding.{hold_of}
use Rattle.held.specs.Clearing.{keep_of}
use Rattle.printing.specs.Texts.{unless_refused}

-- ---- hold HEAD BODY NOT FROM TO: "`new`, or `equal` where an equal clause stands already"
-- the bytes of these words
abbrev pub new_word : List ℕ
new_word = 110 ∷ 101 ∷ 119 ∷ []

abbrev pub equal_word : List ℕ
equal_word = 101 ∷ 113 ∷ 117 ∷ 97 ∷ 108 ∷ []

unfoldable pub status_line : HoldStatus → List ℕ
status_line New = line_of (new_word ∷ [])
status_line Equal = line_of (equal_word ∷ [])

unfoldable pub held_line : Result HoldStatus Refusal → List ℕ
unfolding status_line
held_line (Ok s) = status_line s
held_line (Err r) = refused_line (number r)

unfoldable pub hold_text : Clause → ℕ → ℕ → Program → List ℕ
hold_text c f l p = held_line (hold_of p c f l).status

-- ---- keep HEAD BODY NOT FROM TO: "the book with that clause held and then kept"
unfoldable pub keep_text : Clause → ℕ → ℕ → Program → List ℕ
keep_text c f l p = unless_refused (verdict_of (hold_of p c f l).status) (render (keep_of (hold_of p c f l).program).program)
