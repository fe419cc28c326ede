-- `hold_place::day_held` meets its contract: the day that is given on a dated table, else 0. Assumes nothing.
use borrow.Author.Rules.{rules}
use Rattle.held.specs.Holding.{day_held}
use Rattle.hold_place.proofs.day_held.Goals as goal

pub returns-then-p : goal.returns-then-p
unfolding day_held
returns-then-p c = search rules

pub returns-else-p : goal.returns-else-p
unfolding day_held
returns-else-p c = search rules
