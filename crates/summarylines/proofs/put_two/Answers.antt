-- `summarylines::put_two`: a line of bits, and another behind it, by the laws of one text behind the other. Assumes nothing.
use native.Mathlib.Omega.{arith}
use borrow.Author.Rules.{rules}
use Rattle.lines.proofs.Laying.{first_room, second_from, second_room, both_fits, both_wrote}
use Rattle.summarylines.proofs.put_two.Goals as goal

pub put_bits-a-requires : goal.put_bits-a-requires
put_bits-a-requires c = search (first_room, rules)

pub slice_bounds-put_bits-count : goal.slice_bounds-put_bits-count
slice_bounds-put_bits-count c = search second_from

pub slice_bounds-put_bits-start : goal.slice_bounds-put_bits-start
slice_bounds-put_bits-start c = search second_from

pub put_bits-b-requires : goal.put_bits-b-requires
put_bits-b-requires c = search (second_room, rules)

pub overflow_add-result : goal.overflow_add-result
overflow_add-result c =
    both_fits _ _ _ _ _ _ _ c.put_bits-a.ensures c.requires.2 _ _ c.put_bits-b.ensures (omega arith)

pub returns : goal.returns
returns c = search both_wrote
