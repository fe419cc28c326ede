-- The check of one candidate: its answer for every table and every word, and what each answer says. Assumes nothing.
use Rattle.std.specs.Prelude.{◌≡◌, Bool, true, cond, not, ◌&&◌, List, [], ◌∷◌, ℕ, ◌<◌, eqb, ltb, length, get_or, Result, Ok, Err}
use Rattle.sets.specs.Words.{Set, ◌⊑◌, bit}
use Rattle.sets.specs.Least.{least}
use Rattle.program.specs.declared.Program.{Program}
use Rattle.program.specs.Clauses.{Clause, Row, rows, no_row}
use Rattle.program.specs.Days.{of_day, clauses}
use Rattle.program.specs.Values.{is_word}
use Rattle.program.specs.Valid.{valid}
use Rattle.program.specs.Refusals.{lowest, number, refusal_of}
use Rattle.program.specs.declared.Refusal.{Refusal}
use Rattle.stable.specs.declared.Checked.{Checked}
use Rattle.stable.specs.declared.Checked.TheVariants.{Violated, Smaller, Stable}
use Rattle.semantics.specs.Definitions.{Satisfies, Model, Reduct, PStable}
use Rattle.semantics.specs.Interpretations.{rule_of, rules_of, satisfies, violates, least_smaller}

-- "the lowest number of a violated clause (from 0, as it stands in the book)"; document 02, U13: "clause numbers remain the table's".
-- Of the rows R those count that pass the test; the number of all rows where none that counts is violated.
unfoldable pub first_violated : (Row → Bool) → List Row → ℕ → ℕ
first_violated counts R I = least (λ k. counts (get_or R k no_row) && not (satisfies I (get_or R k no_row).clause)) (length R)

-- The check "answers: not a model of its reduct, with the lowest number of a violated clause ..;
-- not minimal, with the numerically least smaller subset that satisfies the reduct; or p-stable." R are the rows that are numbered, P the clauses of those that count.
unfoldable pub verdict : (Row → Bool) → List Row → List Clause → ℕ → Checked
verdict counts R P I =
    cond (ltb (first_violated counts R I) (length R)) (Violated (first_violated counts R I))
    (cond (ltb (least_smaller P I) I) (Smaller (least_smaller P I)) Stable)

-- "check and summary [meet] 9 and 10"
abbrev pub refusals : Program → ℕ → List (ℕ × Bool)
refusals p w = (9, not (valid p)) ∷ (10, not (is_word p.atom_count w)) ∷ []

unfoldable pub refusal : Program → ℕ → ℕ
refusal p w = lowest (refusals p w)

-- the answer for every table, every day and every word
unfoldable pub answer_of : Program → ℕ → ℕ → Result Checked Refusal
answer_of p d w = cond (eqb (refusal p w) 0) (Ok (verdict (of_day p d) (rows p) (clauses p d) w)) (Err (refusal_of (refusal p w)))

-- row k of a layout is in the set S, and w violates its clause
unfoldable pub violated_in : Set ℕ → (ℕ → Clause) → ℕ → ℕ → Bool
unfolding violates
violated_in S at w k = S k && violates w w (at k)

-- ---- what each case says, in document 01's numbers and values
-- clause k of the table is of the day and violated by I, and none before it is both
pub record FirstViolated (counts : Row → Bool) (R : List Row) (I k : ℕ) : Type 0 where
  pub in_book : k < length R
  pub of_day_lem : counts (get_or R k no_row) ≡ true
  pub violated : Satisfies (bit I) (rule_of (get_or R k no_row).clause) → ⊥
  pub first : (i : ℕ) → i < k → counts (get_or R i no_row) ≡ true → Satisfies (bit I) (rule_of (get_or R i no_row).clause)

-- I satisfies its reduct, and so does j, the least of its smaller subsets that do
pub record LeastSmaller (P : List Clause) (I j : ℕ) : Type 0 where
  pub model : Model (bit I) (Reduct (rules_of P) (bit I))
  pub subset : bit j ⊑ bit I
  pub proper : j < I
  pub satisfied : Model (bit j) (Reduct (rules_of P) (bit I))
  pub first : (i : ℕ) → i < j → bit i ⊑ bit I → Model (bit i) (Reduct (rules_of P) (bit I)) → ⊥

unfoldable pub Says : Program → ℕ → ℕ → Result Checked Refusal → Type 0
Says p d w (Err r) = (number r ≡ refusal p w) × (number r ≡ 0 → ⊥)
Says p d w (Ok (Violated k)) = (refusal p w ≡ 0) × FirstViolated (of_day p d) (rows p) w k
Says p d w (Ok (Smaller j)) = (refusal p w ≡ 0) × LeastSmaller (clauses p d) w j
Says p d w (Ok Stable) = (refusal p w ≡ 0) × PStable (rules_of (clauses p d)) (bit w)

-- the contract of the check: the answer outright, and what it says
pub record Checks (p : Program) (d w : ℕ) (r : Result Checked Refusal) : Type 0 where
  pub answer : r ≡ answer_of p d w
  pub says : Says p d w r
