-- `fixing::put_fixpoint` meets its contract: the lent slices are zeros, as many as are asked for, up to the limits. Assumes nothing.
use borrow.Author.Rules.{rules}
use Rattle.printing.proofs.Texts.{cut_long, cut_ready}
use Rattle.say_fixed.proofs.Texts.{fixpoint_cut}
use Rattle.fixing.proofs.put_fixpoint.Goals as goal

pub slice_bounds-put_steps-end : goal.slice_bounds-put_steps-end
slice_bounds-put_steps-end c = search (cut_long, rules)

pub slice_bounds-put_steps-end-2 : goal.slice_bounds-put_steps-end-2
slice_bounds-put_steps-end-2 c = search (cut_long, rules)

pub slice_bounds-put_steps-end-3 : goal.slice_bounds-put_steps-end-3
slice_bounds-put_steps-end-3 c = search (cut_long, rules)

pub put_steps-requires : goal.put_steps-requires
put_steps-requires c = search (cut_ready, rules)

pub returns : goal.returns
returns c = search fixpoint_cut
