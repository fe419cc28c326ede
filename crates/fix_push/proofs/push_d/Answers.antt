-- (d) is none for a literal and its own stand-in, and else one clause. Assumes nothing.
use Rattle.fix_push.proofs.Emitting.{d_is, d_none, d_there}
use Rattle.fix_push.proofs.push_d.Goals as goal

pub returns-then-t-u : goal.returns-then-t-u
returns-then-t-u c = search d_none

pub push-requires : goal.push-requires
push-requires c = search d_there

pub returns : goal.returns
returns c = search d_is
