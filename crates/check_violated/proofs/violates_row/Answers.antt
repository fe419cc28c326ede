-- `check_violated::violates_row` meets its contract: the row's bit of the set, and the test of its clause. Assumes nothing.
use borrow.Author.Rules.{rules}
use Rattle.sets.proofs.Digits.{bit_clear, bit_set}
use Rattle.check_violated.proofs.violates_row.Goals as goal

pub returns-then-rows-k-eq1 : goal.returns-then-rows-k-eq1
returns-then-rows-k-eq1 c = search (bit_set, rules)

pub returns-else-rows-k-eq1 : goal.returns-else-rows-k-eq1
returns-else-rows-k-eq1 c = search (bit_clear, rules)
