-- `wording::put_numbered_line`: a word and a number are a word, a space and the line of the number. Assumes nothing.
use Rattle.wording.proofs.Words.{numbered_room, numbered_wrote}
use Rattle.wording.proofs.put_numbered_line.Goals as goal

pub put_worded_line-requires : goal.put_worded_line-requires
put_worded_line-requires c = search numbered_room

pub returns : goal.returns
returns c = search numbered_wrote
