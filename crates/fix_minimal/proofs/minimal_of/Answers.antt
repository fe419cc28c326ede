-- `fix_minimal::minimal_of` meets its contract: what is kept is no more than there was and rises, and the minimal ones of what is kept are those of the models. Assumes nothing.
use borrow.Author.Rules.{rules}
use lib.Seq.{length-take-le}
use Rattle.minimal.proofs.Selecting.{kept_within, kept_room, kept-rising, kept-minimal, prefix_room}
use Rattle.fix_minimal.proofs.minimal_of.Goals as goal

pub slice_bounds-keep_models-end-2 : goal.slice_bounds-keep_models-end-2
slice_bounds-keep_models-end-2 c = search (length-take-le, rules)

pub keep_models-k-requires : goal.keep_models-k-requires
keep_models-k-requires c = search (prefix_room, rules)

pub slice_bounds-keep_minimal-end : goal.slice_bounds-keep_minimal-end
slice_bounds-keep_minimal-end c = search (kept_within, rules)

pub slice_bounds-keep_minimal-end-2 : goal.slice_bounds-keep_minimal-end-2
slice_bounds-keep_minimal-end-2 c = search (length-take-le, kept_within, rules)

pub keep_minimal-requires : goal.keep_minimal-requires
keep_minimal-requires c = (search (kept_room, rules), search (kept-rising, rules))

pub returns : goal.returns
returns c = search kept-minimal
