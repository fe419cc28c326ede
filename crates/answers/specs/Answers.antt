-- What each call answers as three numbers, when two answers agree, and where a lent list holds another word than it should. Assumes nothing.
use Rattle.std.specs.Prelude.{Bool, cond, not, ◌&&◌, ◌||◌, List, ℕ, eqb, ltb, get_or, Result, Ok, Err}
use Rattle.sets.specs.Least.{least}
use Rattle.program.specs.declared.Refusal.{Refusal}
use Rattle.program.specs.Refusals.{number}
use Rattle.program.specs.declared.Outcome.{Outcome}
use Rattle.program.specs.declared.Outcome.TheVariants as outcome
use Rattle.stable.specs.declared.Checked.{Checked}
use Rattle.stable.specs.declared.Checked.TheVariants as checked
use Rattle.held.specs.declared.HoldStatus.{HoldStatus}
use Rattle.held.specs.declared.HoldStatus.TheVariants as holding
use Rattle.held.specs.declared.ClearStatus.{ClearStatus}
use Rattle.held.specs.declared.ClearStatus.TheVariants as clearing
use Rattle.answers.specs.declared.Answer.{Answer}
use Rattle.answers.specs.declared.Difference.{Difference}

-- an outcome and two numbers
abbrev pub answer : ℕ → ℕ → ℕ → Answer
answer o a b = record { outcome = o; first = a; second = b }

-- an answer with the number of its refusal
unfoldable pub by_number : {A : Type 0} → Result A Refusal → Result A ℕ
by_number (Ok a) = Ok a
by_number (Err r) = Err (number r)

-- ---- what calls answer: the number of a refusal, 0 for none, or from 100 on how a run or a check ended
unfoldable pub of_verdict : Result (Unit {0}) ℕ → ℕ → Answer
of_verdict (Ok u) n = answer 0 n 0
of_verdict (Err r) n = answer r n 0

-- 100 complete, 101 full, 102 spent, with models written and nodes visited
unfoldable pub of_outcome : Result Outcome ℕ → ℕ → ℕ → Answer
of_outcome (Ok outcome.Complete) n v = answer 100 n v
of_outcome (Ok outcome.Full) n v = answer 101 n v
of_outcome (Ok outcome.Spent) n v = answer 102 n v
of_outcome (Err r) n v = answer r n v

unfoldable pub of_written : Result ℕ ℕ → Answer
of_written (Ok n) = answer 0 n 0
of_written (Err r) = answer r 0 0

-- 103 p-stable, 104 a clause is violated, 105 a smaller subset satisfies the reduct, with its number, and the candidate
unfoldable pub of_checked : Result Checked ℕ → ℕ → Answer
of_checked (Err r) w = answer r 0 w
of_checked (Ok (checked.Violated k)) w = answer 104 k w
of_checked (Ok (checked.Smaller j)) w = answer 105 j w
of_checked (Ok checked.Stable) w = answer 103 0 w

-- 108 a new clause is held, 109 an equal one stands; 110 the place was cleared, 111 nothing was held
unfoldable pub of_held : Result HoldStatus ℕ → Answer
of_held (Ok holding.New) = answer 108 0 0
of_held (Ok holding.Equal) = answer 109 0 0
of_held (Err r) = answer r 0 0

unfoldable pub of_cleared : Result ClearStatus ℕ → Answer
of_cleared (Ok clearing.Cleared) = answer 110 0 0
of_cleared (Ok clearing.NothingHeld) = answer 111 0 0
of_cleared (Err r) = answer r 0 0

-- ---- compared
-- the largest number of 64 bits is expected for any
abbrev pub allowing : ℕ → ℕ → Bool
allowing e f = eqb e 18446744073709551615 || eqb e f

abbrev pub agreeing : Answer → Answer → Bool
agreeing e f = eqb e.outcome f.outcome && allowing e.first f.first && allowing e.second f.second

-- ---- a list of 4,096 places that should hold the words `should`, and what it held before in each place behind them
-- what a place holds before the call
abbrev pub free : ℕ
free = 4294967295

-- the word at the place k, behind all places as one that is free
unfoldable pub held_at : List ℕ → ℕ → ℕ
held_at held k = cond (ltb k 4096) (get_or held k 0) free

-- the place k holds another
unfoldable pub is_other : List ℕ → List ℕ → ℕ → Bool
unfolding held_at
is_other should held k = not (eqb (held_at held k) (get_or should k free))

-- the first place that does; 4,096 where none does
unfoldable pub first_other : List ℕ → List ℕ → ℕ
unfolding is_other
first_other should held = least (is_other should held) 4096

-- what stands there, as a number (106) and its place
unfoldable pub difference_of : List ℕ → List ℕ → Difference
unfolding first_other
difference_of should held =
    let k = first_other should held in
    record { expected = answer 106 (get_or should k free) k; found = answer 106 (held_at held k) k }
