-- `summarylines::put_four`: two lines, and two behind them, by the laws of one text behind the other. Assumes nothing.
use native.Mathlib.Omega.{arith}
use borrow.Author.Rules.{rules}
use Rattle.lines.proofs.Laying.{first_room, second_from, second_room, both_fits, both_wrote}
use Rattle.summarylines.proofs.put_four.Goals as goal

pub put_two-a-requires : goal.put_two-a-requires
put_two-a-requires c = search (first_room, rules)

pub slice_bounds-put_two-count : goal.slice_bounds-put_two-count
slice_bounds-put_two-count c = search second_from

pub slice_bounds-put_two-start : goal.slice_bounds-put_two-start
slice_bounds-put_two-start c = search second_from

pub put_two-b-requires : goal.put_two-b-requires
put_two-b-requires c = search (second_room, rules)

pub overflow_add-result : goal.overflow_add-result
overflow_add-result c =
    both_fits _ _ _ _ _ _ _ c.put_two-a.ensures c.requires _ _ c.put_two-b.ensures (omega arith)

pub returns : goal.returns
returns c = search both_wrote
