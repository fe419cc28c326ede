-- `hold::hold_refusal` meets its contract: one law for each number, and one where none applies. Assumes nothing.
use Rattle.held.proofs.Laws.{refuses}
use Rattle.hold.proofs.hold_refusal.Goals as goal

pub returns-then-not-is_valid : goal.returns-then-not-is_valid
returns-then-not-is_valid c = search refuses

pub returns-then-place : goal.returns-then-place
returns-then-place c = search refuses

pub returns-then-not-is_clause : goal.returns-then-not-is_clause
returns-then-not-is_clause c = search refuses

pub returns-then-p-eq-MOST_CLAUSES : goal.returns-then-p-eq-MOST_CLAUSES
returns-then-p-eq-MOST_CLAUSES c = search refuses

pub returns-then-p-last : goal.returns-then-p-last
returns-then-p-last c = search refuses

pub returns : goal.returns
returns c = search refuses
