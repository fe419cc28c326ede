-- `lines::put_name_item`: the byte behind the name is put behind what was written. Assumes nothing.
use Rattle.lines.proofs.Laying.{first_fits, byte_fits, byte_at, byte_wrote}
use Rattle.lines.proofs.put_name_item.Goals as goal

pub put_name-k-requires : goal.put_name-k-requires
put_name-k-requires c = search first_fits

pub bounds-out-k : goal.bounds-out-k
bounds-out-k c = search byte_at

pub overflow_add-result : goal.overflow_add-result
overflow_add-result c = search byte_fits

pub returns : goal.returns
returns c = search byte_wrote
