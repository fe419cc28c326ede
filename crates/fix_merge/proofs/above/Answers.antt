-- `fix_merge::above` meets its contract: the two ways out are the two cases of `above_at`. Assumes nothing.
use Rattle.rising.proofs.Merging.{merging}
use Rattle.fix_merge.proofs.above.Goals as goal

pub returns-then-p-gt0 : goal.returns-then-p-gt0
returns-then-p-gt0 c = search merging

pub returns-else-p-gt0 : goal.returns-else-p-gt0
returns-else-p-gt0 c = search merging
