-- `literals::with` meets its contract: a shifted one is a power of two. Assumes nothing.
use Rattle.literals.proofs.Literals.{with_is}
use Rattle.literals.proofs.with.Goals as goal

pub returns : goal.returns
returns c = search with_is
