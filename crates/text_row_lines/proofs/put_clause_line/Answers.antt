-- `text_row_lines::put_clause_line`: the line is that of the first values of the array that was filled. Assumes nothing.
use Rattle.program.specs.Values.{clause_values}
use Rattle.lines.proofs.Laying.{row_room, row_wrote}
use Rattle.text_row_lines.proofs.put_clause_line.Goals as goal

pub put_values_line-requires : goal.put_values_line-requires
unfolding clause_values
put_values_line-requires c = search row_room

pub returns : goal.returns
unfolding clause_values
returns c = search row_wrote
