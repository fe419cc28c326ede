-- `hold::hold` meets its contract: a law for each answer. Assumes nothing.
use Rattle.held.proofs.Laws.{hold-few, gives_refused, gives-equal, gives_new}
use Rattle.hold.proofs.hold.Goals as goal

pub returns-in-Err : goal.returns-in-Err
returns-in-Err c = search (gives_refused, c.in-Err.ensures)

pub equal_stands-requires : goal.equal_stands-requires
equal_stands-requires c = search (hold-few, c.in-Ok.ensures)

pub returns-then-equal_stands : goal.returns-then-equal_stands
returns-then-equal_stands c = search (gives-equal, c.in-Ok.ensures)

pub returns-else-equal_stands : goal.returns-else-equal_stands
returns-else-equal_stands c = search (gives_new, c.in-Ok.ensures)
