-- The first places of both slices, as many as the shorter has, are of one length. Assumes nothing.
use borrow.Author.Rules.{rules}
use Rattle.fix_answer.proofs.Answering.{evened, first_there, one_length, second_there}
use Rattle.fix_list.proofs.list_models.Goals as goal

pub slice_bounds-list_even-end-2 : goal.slice_bounds-list_even-end-2
slice_bounds-list_even-end-2 c = search (first_there, rules)

pub slice_bounds-list_even-end-4 : goal.slice_bounds-list_even-end-4
slice_bounds-list_even-end-4 c = search (second_there, rules)

pub list_even-requires : goal.list_even-requires
list_even-requires c = search (one_length, rules)

pub returns : goal.returns
returns c = search evened
