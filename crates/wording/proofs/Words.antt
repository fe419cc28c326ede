-- A word and numbers behind it: the word, a space and the line of the numbers. Assumes nothing.
use Rattle.std.specs.Prelude.{Result}
use mathlib.Core.Path.{◌≡◌, sym, ◌∙◌}
use mathlib.Core.List.{List, [], ◌∷◌, ◌++◌, append_assoc, map}
use Prim.Native.Nat.{ℕ, ◌≤◌}
use native.Mathlib.Omega.{arith}
use lib.ListN.{length}
use Rattle.lists.specs.Bytes.{join, led, Wrote}
use Rattle.program.specs.declared.Outcome.{Outcome}
use Rattle.decimal.specs.Decimal.{decimal}
use Rattle.text.specs.Lines.{line_of, values_line}
use Rattle.lines.specs.Laying.{Room}
use Rattle.wording.specs.Printed.{outcome_word, worded, numbered, last_line}

-- a word and numbers behind it
pub worded_is : (w vs : List ℕ) → 1 ≤ length vs → worded w vs ≡ (w ++ 32 ∷ []) ++ values_line vs
unfolding worded line_of values_line join led
worded_is w [] h = absurd (omega arith)
worded_is w (v ∷ vs) h =
    let j = decimal v ++ led 32 (map decimal vs) in
    append_assoc w (32 ∷ j) (10 ∷ []) ∙ sym (append_assoc w (32 ∷ []) (j ++ 10 ∷ []))

module _ (w xs : List ℕ) (v : ℕ) where
  pub numbered_room : length (numbered w v) ≤ length xs → Room 1 1 ((w ++ 32 ∷ []) ++ values_line (v ∷ [])) xs
  unfolding numbered
  numbered_room h = record { some = omega arith; few = omega arith; room = rw (← worded_is w (v ∷ []) (omega arith)) h }

  pub numbered_wrote : (r : ℕ) (ys : List ℕ) → Wrote ((w ++ 32 ∷ []) ++ values_line (v ∷ [])) xs r ys → Wrote (numbered w v) xs r ys
  unfolding numbered
  numbered_wrote r ys t = rw (worded_is w (v ∷ []) (omega arith)) t

module _ {R : Type 0} (o : Result Outcome R) (xs : List ℕ) (m v : ℕ) where
  pub last_room : length (last_line o m v) ≤ length xs → Room 2 2 ((outcome_word o ++ 32 ∷ []) ++ values_line (m ∷ v ∷ [])) xs
  unfolding last_line
  last_room h = record { some = omega arith; few = omega arith; room = rw (← worded_is (outcome_word o) (m ∷ v ∷ []) (omega arith)) h }

  pub last_wrote : (r : ℕ) (ys : List ℕ) → Wrote ((outcome_word o ++ 32 ∷ []) ++ values_line (m ∷ v ∷ [])) xs r ys → Wrote (last_line o m v) xs r ys
  unfolding last_line
  last_wrote r ys t = rw (worded_is (outcome_word o) (m ∷ v ∷ []) (omega arith)) t
