-- `listings::put_listing`: the names line, and the lines of the models behind it, by the laws of one text behind the other. Assumes nothing.
use native.Mathlib.Omega.{arith}
use borrow.Author.Rules.{rules}
use Rattle.lines.proofs.Laying.{first_room, second_from, second_room, both_fits, both_wrote}
use Rattle.listings.proofs.put_listing.Goals as goal

pub put_names_line-a-requires : goal.put_names_line-a-requires
put_names_line-a-requires c = search first_room

pub slice_bounds-put_model_lines-count : goal.slice_bounds-put_model_lines-count
slice_bounds-put_model_lines-count c = search second_from

pub slice_bounds-put_model_lines-start : goal.slice_bounds-put_model_lines-start
slice_bounds-put_model_lines-start c = search second_from

pub put_model_lines-b-requires : goal.put_model_lines-b-requires
put_model_lines-b-requires c = search (second_room, rules)

pub overflow_add-result : goal.overflow_add-result
overflow_add-result c =
    both_fits _ _ _ _ _ _ _ c.put_names_line-a.ensures c.requires.1 _ _ c.put_model_lines-b.ensures (omega arith)

pub returns : goal.returns
returns c = search both_wrote
