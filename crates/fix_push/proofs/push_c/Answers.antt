-- (c) is one clause without a head. Assumes nothing.
use Rattle.fix_push.proofs.Emitting.{c_is, c_there}
use Rattle.fix_push.proofs.push_c.Goals as goal

pub push-requires : goal.push-requires
push-requires c = search c_there

pub returns : goal.returns
returns c = search c_is
