-- `fix_add::insert_behind` meets its contract: the words before `m` stay. Assumes nothing.
use Rattle.rising.proofs.Adding.{adding}
use Rattle.fix_add.proofs.insert_behind.Goals as goal

pub insert-requires : goal.insert-requires
insert-requires c = search adding

pub returns : goal.returns
returns c = search adding
