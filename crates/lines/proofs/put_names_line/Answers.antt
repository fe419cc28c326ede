use borrow.Author.Rules.{rules}
use Rattle.lines.proofs.Laying.{names_laid, laid_start, laid_from, laid_room, laid_fits, laid_more, laid_done}
use Rattle.lines.proofs.put_names_line.Goals as goal

pub loop-i-init : goal.loop-i-init
loop-i-init c = search (names_laid, laid_start, rules)

pub slice_bounds-put_name_item-count : goal.slice_bounds-put_name_item-count
slice_bounds-put_name_item-count c = search laid_from

pub slice_bounds-put_name_item-start : goal.slice_bounds-put_name_item-start
slice_bounds-put_name_item-start c = search laid_from

pub put_name_item-at-requires : goal.put_name_item-at-requires
put_name_item-at-requires c = (search rules, search laid_room)

pub overflow_add-at : goal.overflow_add-at
overflow_add-at c = search laid_fits

pub loop-i-preserved : goal.loop-i-preserved
loop-i-preserved c = search laid_more

pub returns : goal.returns
returns c = search laid_done
