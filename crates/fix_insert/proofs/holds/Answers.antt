-- `fix_insert::holds` meets its contract: a member stands at its rank. Assumes nothing.
use Rattle.rising.proofs.Adding.{adding}
use Rattle.fix_insert.proofs.holds.Goals as goal

pub returns : goal.returns
returns c = search adding
