-- `wording::put_outcome_line`: a word and a number are a word, a space and the line of the number. Assumes nothing.
use Rattle.wording.proofs.Words.{numbered_room, numbered_wrote}
use Rattle.wording.proofs.put_outcome_line.Goals as goal

pub put_outcome-requires : goal.put_outcome-requires
put_outcome-requires g c = search numbered_room

pub returns : goal.returns
returns g c = search numbered_wrote
