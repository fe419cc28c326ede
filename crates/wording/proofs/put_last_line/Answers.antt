-- `wording::put_last_line`: a word and two numbers are a word, a space and the line of the numbers. Assumes nothing.
use Rattle.wording.proofs.Words.{last_room, last_wrote}
use Rattle.wording.proofs.put_last_line.Goals as goal

pub put_outcome-requires : goal.put_outcome-requires
put_outcome-requires g c = search last_room

pub returns : goal.returns
returns g c = search last_wrote
