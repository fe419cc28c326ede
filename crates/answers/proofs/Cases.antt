-- An answer that is right for the case that a match found is right for what was matched; two answers agree where their numbers do. Assumes nothing.
use Rattle.std.specs.Prelude.{Result}
use mathlib.Core.Path.{◌≡◌}
use mathlib.Core.Bool.{Bool, ◌&&◌}
use Prim.Native.Nat.{ℕ}
use lib.Dec.{eqb}
use Rattle.program.specs.declared.Outcome.{Outcome}
use Rattle.stable.specs.declared.Checked.{Checked}
use Rattle.held.specs.declared.HoldStatus.{HoldStatus}
use Rattle.held.specs.declared.ClearStatus.{ClearStatus}
use Rattle.answers.specs.declared.Answer.{Answer}
use Rattle.answers.specs.Answers.{of_verdict, of_outcome, of_written, of_checked, of_held, of_cleared, allowing, agreeing}

pub verdict_case : (o p : Result (Unit {0}) ℕ) (n : ℕ) (r : Answer) → o ≡ p → r ≡ of_verdict p n → r ≡ of_verdict o n
verdict_case o p n r e h = rw e h

pub outcome_case : (o p : Result Outcome ℕ) (n v : ℕ) (r : Answer) → o ≡ p → r ≡ of_outcome p n v → r ≡ of_outcome o n v
outcome_case o p n v r e h = rw e h

pub written_case : (o p : Result ℕ ℕ) (r : Answer) → o ≡ p → r ≡ of_written p → r ≡ of_written o
written_case o p r e h = rw e h

pub checked_case : (o p : Result Checked ℕ) (w : ℕ) (r : Answer) → o ≡ p → r ≡ of_checked p w → r ≡ of_checked o w
checked_case o p w r e h = rw e h

pub held_case : (o p : Result HoldStatus ℕ) (r : Answer) → o ≡ p → r ≡ of_held p → r ≡ of_held o
held_case o p r e h = rw e h

pub cleared_case : (o p : Result ClearStatus ℕ) (r : Answer) → o ≡ p → r ≡ of_cleared p → r ≡ of_cleared o
cleared_case o p r e h = rw e h

pub numbers_agree : (e f : Answer) (a b : Bool) → a ≡ allowing e.first f.first → b ≡ allowing e.second f.second → (eqb e.outcome f.outcome && a && b) ≡ agreeing e f
numbers_agree e f a b p q = rw (p, q)
