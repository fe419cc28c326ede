-- `say_fixed::put_ended` meets its contract: behind the models there is room for the line of the outcome. Assumes nothing.
use borrow.Author.Rules.{rules}
use Rattle.printing.proofs.Texts.{behind_models, behind_fits, behind-small, behind_wrote}
use Rattle.say_fixed.proofs.Texts.{ended-most}
use Rattle.say_fixed.proofs.put_ended.Goals as goal

-- the line of the outcome, behind the models
ruleset behind = (ended-most, behind_models, behind_fits, behind-small, behind_wrote, rules)

pub slice_bounds-put_outcome_line-count : goal.slice_bounds-put_outcome_line-count
slice_bounds-put_outcome_line-count c = search behind

pub slice_bounds-put_outcome_line-start : goal.slice_bounds-put_outcome_line-start
slice_bounds-put_outcome_line-start c = search behind

pub put_outcome_line-b-requires : goal.put_outcome_line-b-requires
put_outcome_line-b-requires c = search behind

pub overflow_add-result : goal.overflow_add-result
overflow_add-result c = record { fits = search behind }

pub returns : goal.returns
returns c = search behind
