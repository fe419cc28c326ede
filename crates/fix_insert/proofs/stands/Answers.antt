-- `fix_insert::stands` meets its contract: the two ways out are the two cases of `stands_at`. Assumes nothing.
use Rattle.rising.proofs.Inserting.{inserting}
use Rattle.fix_insert.proofs.stands.Goals as goal

pub returns-then-at-members : goal.returns-then-at-members
returns-then-at-members c = search inserting

pub returns-else-at-members : goal.returns-else-at-members
returns-else-at-members c = search inserting
