-- `summarylines::put_shown`: the four lines, and the line of the flags behind them, by the laws of one text behind the other. Assumes nothing.
use native.Mathlib.Omega.{arith}
use Rattle.lines.proofs.Laying.{first_room, second_from, second_room, both_fits, both_wrote}
use Rattle.summarylines.proofs.put_shown.Goals as goal

pub put_four-a-requires : goal.put_four-a-requires
put_four-a-requires c = search first_room

pub slice_bounds-put_flags-count : goal.slice_bounds-put_flags-count
slice_bounds-put_flags-count c = search second_from

pub slice_bounds-put_flags-start : goal.slice_bounds-put_flags-start
slice_bounds-put_flags-start c = search second_from

pub put_flags-b-requires : goal.put_flags-b-requires
put_flags-b-requires c = search second_room

pub overflow_add-result : goal.overflow_add-result
overflow_add-result c =
    both_fits _ _ _ _ _ _ _ c.put_four-a.ensures c.requires _ _ c.put_flags-b.ensures (omega arith)

pub returns : goal.returns
returns c = search both_wrote
