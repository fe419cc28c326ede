-- `fixing::put_steps` meets its contract: a fixpoint writes no more words than its list has places, and the text is that of its answer. Assumes nothing.
use borrow.Author.Rules.{rules}
use Rattle.say_fixed.proofs.Texts.{fixed_here, fixed_long, fixed-ready, fixpoint_wrote}
use Rattle.fixing.proofs.put_steps.Goals as goal

pub slice_bounds-put_fixed-end : goal.slice_bounds-put_fixed-end
slice_bounds-put_fixed-end c = search (fixed_here, rules)

pub slice_bounds-put_fixed-end-2 : goal.slice_bounds-put_fixed-end-2
slice_bounds-put_fixed-end-2 c = search (fixed_long, rules)

pub put_fixed-requires : goal.put_fixed-requires
put_fixed-requires c = search (fixed-ready, rules)

pub returns : goal.returns
returns c = search fixpoint_wrote
