-- The parts of literals and of beliefs, compared as sets. Assumes nothing.
use Rattle.parts.proofs.Collecting.{canonical_is}
use Rattle.parts.proofs.is_canonical.Goals as goal

pub returns : goal.returns
returns c = search canonical_is
