-- The lines that are printed of a word and numbers: of an outcome, of a refusal. Assumes nothing.
use Rattle.std.specs.Prelude.{List, [], ◌∷◌, map, ℕ, Result, Ok, Err}
use Rattle.program.specs.declared.Outcome.{Outcome}
use Rattle.program.specs.declared.Outcome.TheVariants.{Complete, Full, Spent}
use Rattle.decimal.specs.Decimal.{decimal}
use Rattle.text.specs.Lines.{line_of}

-- the bytes of "refused", and of the word for each outcome: "complete", "full", "spent"
unfoldable pub refused_word : List ℕ
refused_word = 114 ∷ 101 ∷ 102 ∷ 117 ∷ 115 ∷ 101 ∷ 100 ∷ []

unfoldable pub outcome_word : {R : Type 0} → Result Outcome R → List ℕ
unfolding refused_word
outcome_word (Ok Complete) = 99 ∷ 111 ∷ 109 ∷ 112 ∷ 108 ∷ 101 ∷ 116 ∷ 101 ∷ []
outcome_word (Ok Full) = 102 ∷ 117 ∷ 108 ∷ 108 ∷ []
outcome_word (Ok Spent) = 115 ∷ 112 ∷ 101 ∷ 110 ∷ 116 ∷ []
outcome_word (Err r) = refused_word

-- a line of a word and of numbers behind it; of a word and a number
unfoldable pub worded : List ℕ → List ℕ → List ℕ
worded w vs = line_of (w ∷ map decimal vs)

unfoldable pub numbered : List ℕ → ℕ → List ℕ
numbered w v = worded w (v ∷ [])

-- "If refused it prints only one such line, as "refused 7"."
unfoldable pub refused_line : ℕ → List ℕ
refused_line r = numbered refused_word r

-- "a last line of outcome, models written and nodes visited"
unfoldable pub last_line : {R : Type 0} → Result Outcome R → ℕ → ℕ → List ℕ
last_line o m v = worded (outcome_word o) (m ∷ v ∷ [])
