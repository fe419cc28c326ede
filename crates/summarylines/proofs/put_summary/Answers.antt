-- `summarylines::put_summary`: the names line, and the lines of the summary behind it, by the laws of one text behind the other. Assumes nothing.
use native.Mathlib.Omega.{arith}
use Rattle.lines.proofs.Laying.{first_room, second_from, second_room, both_fits, both_wrote}
use Rattle.summarylines.proofs.put_summary.Goals as goal

pub put_names_line-a-requires : goal.put_names_line-a-requires
put_names_line-a-requires c = search first_room

pub slice_bounds-put_shown-count : goal.slice_bounds-put_shown-count
slice_bounds-put_shown-count c = search second_from

pub slice_bounds-put_shown-start : goal.slice_bounds-put_shown-start
slice_bounds-put_shown-start c = search second_from

pub put_shown-b-requires : goal.put_shown-b-requires
put_shown-b-requires c = search second_room

pub overflow_add-result : goal.overflow_add-result
overflow_add-result c =
    both_fits _ _ _ _ _ _ _ c.put_names_line-a.ensures c.requires _ _ c.put_shown-b.ensures (omega arith)

pub returns : goal.returns
returns c = search both_wrote
