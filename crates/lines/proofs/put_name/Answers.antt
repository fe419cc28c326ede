-- `lines::put_name`: a name is the front of its place, up to its length. Assumes nothing.
use Rattle.lines.proofs.Names.{name_room, name_wrote}
use Rattle.lines.proofs.put_name.Goals as goal

pub put_bytes-requires : goal.put_bytes-requires
put_bytes-requires c = search name_room

pub returns : goal.returns
returns c = search name_wrote
