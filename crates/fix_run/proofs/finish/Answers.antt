-- `fix_run::finish` meets its contract: the least closed set that holds the stage is the stage that ends the run. Assumes nothing.
use borrow.Author.Rules.{rules}
use lib.Seq.{length-take-le}
use Rattle.stages.proofs.Closing.{finish_runs, finish_over, finish_runs_on, finish_within, finish_fits, finish_done}
use Rattle.fix_run.proofs.finish.Goals as goal

pub close-n-requires : goal.close-n-requires
close-n-requires c = search (finish_runs, rules)

pub returns-then-first-n : goal.returns-then-first-n
returns-then-first-n c = search finish_over

pub settle-requires : goal.settle-requires
settle-requires c = search (finish_runs_on, rules)

pub slice_bounds-copy-end : goal.slice_bounds-copy-end
slice_bounds-copy-end c = search (finish_within, rules)

pub slice_bounds-copy-end-2 : goal.slice_bounds-copy-end-2
slice_bounds-copy-end-2 c = search (length-take-le, finish_within, rules)

pub copy-requires : goal.copy-requires
copy-requires c = search (finish_fits, rules)

pub returns : goal.returns
returns c = search finish_done
