-- `fix_insert::insert` meets its contract: each of the three ways out, present, too many, put in, is a law on the place and on what stands there. Assumes nothing.
use Rattle.rising.proofs.Inserting.{inserting}
use Rattle.fix_insert.proofs.insert.Goals as goal

pub returns-then-stands : goal.returns-then-stands
returns-then-stands c = search inserting

pub returns-then-members-set : goal.returns-then-members-set
returns-then-members-set c = search inserting

pub bounds-set-at : goal.bounds-set-at
bounds-set-at c = search inserting

pub returns : goal.returns
returns c = search inserting
