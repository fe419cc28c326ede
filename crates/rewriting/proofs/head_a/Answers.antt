-- The word of the stand-ins joined with the beliefs. Assumes nothing.
use Rattle.rewriting.proofs.Becoming.{head_is}
use Rattle.rewriting.proofs.head_a.Goals as goal

pub returns : goal.returns
returns c = search head_is
