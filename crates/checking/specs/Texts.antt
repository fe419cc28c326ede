-- What `check` says of a table, as a definition of the table, of the day and of the word. Assumes nothing.
use Rattle.std.specs.Prelude.{List, [], ◌∷◌, ℕ, Result, Ok, Err}
use Rattle.program.specs.declared.Program.{Program}
use Rattle.text.specs.Lines.{line_of}
use Rattle.wording.specs.Printed.{numbered, refused_line}
use Rattle.stable.specs.declared.Checked.{Checked}
use Rattle.stable.specs.declared.Checked.TheVariants.{Violated, Smaller, Stable}
use Rattle.program.specs.declared.Refusal.{Refusal}
use Rattle.program.specs.Refusals.{number}
use Rattle.stable.specs.Check as checked

-- ---- check WORD: "`violated K`, `smaller J` or `stable`"
-- the bytes of these words
abbrev pub violated_word : List ℕ
violated_word = 118 ∷ 105 ∷ 111 ∷ 108 ∷ 97 ∷ 116 ∷ 101 ∷ 100 ∷ []

abbrev pub smaller_word : List ℕ
smaller_word = 115 ∷ 109 ∷ 97 ∷ 108 ∷ 108 ∷ 101 ∷ 114 ∷ []

abbrev pub stable_word : List ℕ
stable_word = 115 ∷ 116 ∷ 97 ∷ 98 ∷ 108 ∷ 101 ∷ []

unfoldable pub finding_line : Checked → List ℕ
finding_line (Violated k) = numbered violated_word k
finding_line (Smaller j) = numbered smaller_word j
finding_line Stable = line_of (stable_word ∷ [])

unfoldable pub checked_line : Result Checked Refusal → List ℕ
unfolding finding_line
checked_line (Err r) = refused_line (number r)
checked_line (Ok c) = finding_line c

unfoldable pub check_text : ℕ → ℕ → Program → List ℕ
check_text d w p = checked_line (checked.answer_of p d w)
