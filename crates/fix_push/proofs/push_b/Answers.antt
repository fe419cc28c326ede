-- (b) is one clause of the words that `single` gives. Assumes nothing.
use Rattle.fix_push.proofs.Emitting.{b_is, b_there}
use Rattle.fix_push.proofs.push_b.Goals as goal

pub push-requires : goal.push-requires
push-requires c = search b_there

pub returns : goal.returns
returns c = search b_is
