-- The words of two members, joined. Assumes nothing.
use Rattle.fix_push.proofs.Emitting.{couple_is}
use Rattle.fix_push.proofs.couple.Goals as goal

pub returns : goal.returns
returns c = search couple_is
