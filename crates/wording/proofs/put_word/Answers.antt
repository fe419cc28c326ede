-- `wording::put_word`: the space is put behind the word. Assumes nothing.
use Rattle.lines.proofs.Laying.{first_fits, byte_fits, byte_at, byte_wrote}
use Rattle.wording.proofs.put_word.Goals as goal

pub put_bytes-k-requires : goal.put_bytes-k-requires
put_bytes-k-requires c = search first_fits

pub bounds-out-k : goal.bounds-out-k
bounds-out-k c = search byte_at

pub overflow_add-result : goal.overflow_add-result
overflow_add-result c = search byte_fits

pub returns : goal.returns
returns c = search byte_wrote
