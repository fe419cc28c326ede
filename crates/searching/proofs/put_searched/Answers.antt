-- `searching::put_searched` meets its contract: behind the models there is room for the last line. Assumes nothing.
use borrow.Author.Rules.{rules}
use Rattle.wording.proofs.Bounds.{last-most}
use Rattle.printing.proofs.Texts.{behind_models, behind_fits, behind-small, behind_wrote}
use Rattle.searching.proofs.put_searched.Goals as goal

-- the last line, behind the models
ruleset behind = (last-most, behind_models, behind_fits, behind-small, behind_wrote, rules)

pub slice_bounds-put_last_line-count : goal.slice_bounds-put_last_line-count
slice_bounds-put_last_line-count c = search behind

pub slice_bounds-put_last_line-start : goal.slice_bounds-put_last_line-start
slice_bounds-put_last_line-start c = search behind

pub put_last_line-b-requires : goal.put_last_line-b-requires
put_last_line-b-requires c = search behind

pub overflow_add-result : goal.overflow_add-result
overflow_add-result c = record { fits = search behind }

pub returns : goal.returns
returns c = search behind
