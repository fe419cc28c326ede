-- `table_fields::low_two` meets its contract by the laws of a mask. Assumes nothing.
use borrow.Author.Rules.{rules}
use Rattle.program.proofs.Places.{mask_fits, mask_three}
use Rattle.table_fields.proofs.low_two.Goals as goal

pub overflow_cast-result : goal.overflow_cast-result
overflow_cast-result c = search (mask_fits, rules)

pub returns : goal.returns
returns c = search mask_three
