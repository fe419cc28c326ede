-- A shifted one is the word of one member. Assumes nothing.
use Rattle.fix_push.proofs.Emitting.{single_is}
use Rattle.fix_push.proofs.single.Goals as goal

pub returns : goal.returns
returns c = search single_is
