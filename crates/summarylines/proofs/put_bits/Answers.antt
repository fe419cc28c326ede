-- `summarylines::put_bits`: the line is that of the first values of the array that was filled. Assumes nothing.
use Rattle.lines.proofs.Laying.{row_room, row_wrote}
use Rattle.summarylines.specs.Summary.{bits_line}
use Rattle.summarylines.proofs.put_bits.Goals as goal

pub put_values_line-requires : goal.put_values_line-requires
unfolding bits_line
put_values_line-requires c = search row_room

pub returns : goal.returns
unfolding bits_line
returns c = search row_wrote
