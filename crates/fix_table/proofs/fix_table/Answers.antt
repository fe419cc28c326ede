-- The transform has at most 1120 clauses, so that there is room for it, and what is listed of these clauses is the answer. Assumes nothing.
use Rattle.fix_answer.proofs.Answering.{tables, table_answered}
use Rattle.fix_table.proofs.fix_table.Goals as goal

pub literal_count-m-requires : goal.literal_count-m-requires
literal_count-m-requires c = search tables

pub slice_bounds-transform-end-4 : goal.slice_bounds-transform-end-4
slice_bounds-transform-end-4 c = search tables

pub slice_bounds-transform-end-5 : goal.slice_bounds-transform-end-5
slice_bounds-transform-end-5 c = search tables

pub transform-n-requires : goal.transform-n-requires
transform-n-requires c = search tables

pub slice_bounds-list_models-end : goal.slice_bounds-list_models-end
slice_bounds-list_models-end c = search tables

pub slice_bounds-list_models-end-2 : goal.slice_bounds-list_models-end-2
slice_bounds-list_models-end-2 c = search tables

pub list_models-requires : goal.list_models-requires
list_models-requires c = (search tables, search tables, search tables)

pub shape_of-models : goal.shape_of-models
shape_of-models c = search tables

pub shape_of-first : goal.shape_of-first
shape_of-first c = search tables

pub shape_of-second : goal.shape_of-second
shape_of-second c = search tables

pub returns : goal.returns
returns c = search table_answered
