-- `fix_add::settle` meets its contract: the merged runs are all members. Assumes nothing.
use Rattle.rising.proofs.Adding.{adding}
use Rattle.fix_add.proofs.settle.Goals as goal

pub merge-requires : goal.merge-requires
merge-requires c = search adding

pub returns : goal.returns
returns c = search adding
