-- `writer::put_first_line`: the line of the names is the whole where the book is not dated, and goes on where it is (`names_go`). Assumes nothing.
use mathlib.Core.Bool.{not}
use mathlib.Core.Path.{ap}
use borrow.Author.Rules.{rules}
use Rattle.lines.proofs.Going.{end_from, end_at, end_behind, on_room, on_wrote, wrote_fits, wrote_same, names_go, names_some, names_room, names_wrote}
use Rattle.writer.proofs.put_first_line.Goals as goal

pub put_names_line-a-requires : goal.put_names_line-a-requires
put_names_line-a-requires c = search names_room

pub returns-then-not-dated : goal.returns-then-not-dated
returns-then-not-dated c = search names_wrote

pub overflow_sub-out : goal.overflow_sub-out
overflow_sub-out c = search (end_from, names_some)

pub bounds-out-a : goal.bounds-out-a
bounds-out-a c = search (end_at, names_some)

pub slice_bounds-put_bytes-count : goal.slice_bounds-put_bytes-count
slice_bounds-put_bytes-count c = search (end_behind, names_some)

pub slice_bounds-put_bytes-start : goal.slice_bounds-put_bytes-start
slice_bounds-put_bytes-start c = search (end_behind, names_some)

pub put_bytes-b-requires : goal.put_bytes-b-requires
put_bytes-b-requires c = search (on_room, names_go)

pub returns : goal.returns
returns c =
    let room = c.requires in
    on_wrote _ _ _ _ _ _ (names_go _ _ _ room.some (ap not c.if-not-dated.false)) room _ _ c.put_names_line-a.ensures _ _ c.put_bytes-b.ensures

pub overflow_add-result : goal.overflow_add-result
overflow_add-result c = search (wrote_fits, returns c, rules)

pub shape_of-out : goal.shape_of-out
shape_of-out c = search (wrote_same, returns c)
