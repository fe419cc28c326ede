-- `wording::put_worded_line`: a word and the line of the values behind it, by the laws of one text behind the other. Assumes nothing.
use native.Mathlib.Omega.{arith}
use Rattle.lines.proofs.Laying.{first_fits, second_from, second_room, both_fits, both_wrote}
use Rattle.wording.proofs.put_worded_line.Goals as goal

pub put_word-a-requires : goal.put_word-a-requires
put_word-a-requires c = search first_fits

pub slice_bounds-put_values_line-count : goal.slice_bounds-put_values_line-count
slice_bounds-put_values_line-count c = search second_from

pub slice_bounds-put_values_line-start : goal.slice_bounds-put_values_line-start
slice_bounds-put_values_line-start c = search second_from

pub put_values_line-b-requires : goal.put_values_line-b-requires
put_values_line-b-requires c = search second_room

pub overflow_add-result : goal.overflow_add-result
overflow_add-result c =
    both_fits _ _ _ _ _ _ _ c.put_word-a.ensures c.requires _ _ c.put_values_line-b.ensures (omega arith)

pub returns : goal.returns
returns c = search both_wrote
