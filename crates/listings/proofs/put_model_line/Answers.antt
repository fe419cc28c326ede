-- `listings::put_model_line`: the line is that of the first values of the array that was filled. Assumes nothing.
use Rattle.program.specs.Values.{word_values}
use Rattle.lines.proofs.Laying.{row_room, row_wrote}
use Rattle.listings.proofs.put_model_line.Goals as goal

pub put_values_line-requires : goal.put_values_line-requires
unfolding word_values
put_values_line-requires c = search row_room

pub returns : goal.returns
unfolding word_values
returns c = search row_wrote
