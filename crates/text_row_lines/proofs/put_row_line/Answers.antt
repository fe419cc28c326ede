-- `text_row_lines::put_row_line`: the line of the values is the whole where the book is not dated, and goes on where it is (`values_go`). Assumes nothing.
use native.Mathlib.Omega.{arith}
use mathlib.Core.Path.{ap}
use mathlib.Core.Bool.{not}
use borrow.Author.Rules.{rules}
use Rattle.lines.proofs.Going.{end_from, end_at, end_behind, on_room, on_wrote, wrote_fits, wrote_same, values_go, values_some, values_room, values_wrote}
use Rattle.text_row_lines.proofs.put_row_line.Goals as goal

pub put_clause_line-a-requires : goal.put_clause_line-a-requires
put_clause_line-a-requires c = search values_room

pub returns-then-not-dated : goal.returns-then-not-dated
returns-then-not-dated c = search values_wrote

pub overflow_sub-out : goal.overflow_sub-out
overflow_sub-out c = search (end_from, values_some)

pub bounds-out-a : goal.bounds-out-a
bounds-out-a c = search (end_at, values_some)

pub slice_bounds-put_values_line-count : goal.slice_bounds-put_values_line-count
slice_bounds-put_values_line-count c = search (end_behind, values_some)

pub slice_bounds-put_values_line-start : goal.slice_bounds-put_values_line-start
slice_bounds-put_values_line-start c = search (end_behind, values_some)

pub put_values_line-b-requires : goal.put_values_line-b-requires
put_values_line-b-requires c =
    let room = c.requires in
    record {
      some = omega arith;
      few = omega arith;
      room = rw (c.from.ensures, c.from-2.ensures) (on_room _ _ _ _ _ _ (values_go _ _ _ _ _ room.some (ap not c.if-not-dated.false)) room _ _ c.put_clause_line-a.ensures);
    }

pub returns : goal.returns
returns c =
    let room = c.requires in
    on_wrote _ _ _ _ _ _ (values_go _ _ _ _ _ room.some (ap not c.if-not-dated.false)) room _ _ c.put_clause_line-a.ensures _ _ (rw (c.from.ensures, c.from-2.ensures) at c.put_values_line-b.ensures)

pub overflow_add-result : goal.overflow_add-result
overflow_add-result c = search (wrote_fits, returns c, rules)

pub shape_of-out : goal.shape_of-out
shape_of-out c = search (wrote_same, returns c)
