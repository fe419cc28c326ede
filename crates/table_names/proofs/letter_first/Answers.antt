-- `table_names::letter_first` meets its contract: `first_none` where there is no byte, else `first_is`. Assumes nothing.
use borrow.Author.Rules.{rules}
use Rattle.program.proofs.Places.{first_is, first_none}
use Rattle.table_names.proofs.letter_first.Goals as goal

pub returns-then-is_empty : goal.returns-then-is_empty
returns-then-is_empty c = search (first_none, rules)

pub returns-else-is_empty : goal.returns-else-is_empty
returns-else-is_empty c = search (first_is, rules)
