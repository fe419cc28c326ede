-- `checker::check_day` meets its contract: one law for each answer: `is-violated`, `is-smaller`, `is_stable_lem`. Assumes nothing.
use borrow.Author.Rules.{rules}
use Rattle.stable.proofs.Checking.{few-chosen, few_rows, is-smaller, is_stable_lem, is-violated, row_number}
use Rattle.checker.proofs.check_day.Goals as goal

pub first_violated_row-v-requires : goal.first_violated_row-v-requires
first_violated_row-v-requires c = search few_rows

pub overflow_cast-result : goal.overflow_cast-result
overflow_cast-result c = search (row_number, rules)

pub returns-then-v-count : goal.returns-then-v-count
returns-then-v-count c = search is-violated

pub least_smaller-j-requires : goal.least_smaller-j-requires
least_smaller-j-requires c = search few-chosen

pub returns-then-j-candidate : goal.returns-then-j-candidate
returns-then-j-candidate c = search is-smaller

pub returns : goal.returns
returns c = search is_stable_lem
