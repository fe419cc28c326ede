-- `writer::put_text`: the names line, and the lines of the rows behind it, by the laws of one text behind the other. Assumes nothing.
use native.Mathlib.Omega.{arith}
use borrow.Author.Rules.{rules}
use Rattle.program.specs.Names.{names_of}
use Rattle.text.specs.Render.{book_text, render}
use Rattle.lines.proofs.Laying.{first_room, second_from, second_room, both_fits, both_wrote}
use Rattle.writer.proofs.put_text.Goals as goal

pub put_first_line-a-requires : goal.put_first_line-a-requires
unfolding render book_text names_of
put_first_line-a-requires c = search first_room

pub slice_bounds-put_row_lines-count : goal.slice_bounds-put_row_lines-count
unfolding render book_text names_of
slice_bounds-put_row_lines-count c = search second_from

pub slice_bounds-put_row_lines-start : goal.slice_bounds-put_row_lines-start
unfolding render book_text names_of
slice_bounds-put_row_lines-start c = search second_from

pub slice_bounds-put_row_lines-end : goal.slice_bounds-put_row_lines-end
unfolding render book_text names_of
slice_bounds-put_row_lines-end c = search rules

pub put_row_lines-b-requires : goal.put_row_lines-b-requires
unfolding render book_text names_of
put_row_lines-b-requires c = search (second_room, rules)

pub overflow_add-result : goal.overflow_add-result
unfolding render book_text names_of
overflow_add-result c =
    both_fits _ _ _ _ _ _ _ c.put_first_line-a.ensures c.requires.1 _ _ c.put_row_lines-b.ensures (omega arith)

pub shape_of-out : goal.shape_of-out
unfolding render book_text names_of
shape_of-out c = search rules

pub returns : goal.returns
unfolding render book_text names_of
returns c = search both_wrote
