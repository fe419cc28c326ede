-- Refused where some stage is too large for the slices, else the parts of the minimal models are listed. Assumes nothing.
use borrow.Author.Rules.{rules}
use Rattle.fix_answer.proofs.Answering.{answered, first_fits, refused-crowded, second_fits}
use Rattle.fix_list.proofs.list_even.Goals as goal

pub returns-then-room-n : goal.returns-then-room-n
returns-then-room-n c = search refused-crowded

pub list_parts-k-requires : goal.list_parts-k-requires
list_parts-k-requires c = search (first_fits, second_fits, rules)

pub returns : goal.returns
returns c = search answered
