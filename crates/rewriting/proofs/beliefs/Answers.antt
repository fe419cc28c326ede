-- The not-part, `m` places up. Assumes nothing.
use Rattle.rewriting.proofs.Becoming.{beliefs_are}
use Rattle.rewriting.proofs.beliefs.Goals as goal

pub returns : goal.returns
returns c = rw c.from.ensures (search beliefs_are)
