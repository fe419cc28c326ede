use borrow.Author.Rules.{rules}
use Rattle.lines.proofs.Laying.{laid_start, laid_from, laid_room, laid_fits, laid_more, laid_done}
use Rattle.listings.proofs.Models.{models_laid}
use Rattle.listings.proofs.put_model_lines.Goals as goal

pub loop-k-init : goal.loop-k-init
loop-k-init c = search (models_laid, laid_start, rules)

pub slice_bounds-put_model_line-count : goal.slice_bounds-put_model_line-count
slice_bounds-put_model_line-count c = search laid_from

pub slice_bounds-put_model_line-start : goal.slice_bounds-put_model_line-start
slice_bounds-put_model_line-start c = search laid_from

pub put_model_line-at-requires : goal.put_model_line-at-requires
put_model_line-at-requires c = search (laid_room, rules)

pub overflow_add-at : goal.overflow_add-at
overflow_add-at c = search laid_fits

pub loop-k-preserved : goal.loop-k-preserved
loop-k-preserved c = search laid_more

pub returns : goal.returns
returns c = search laid_done
