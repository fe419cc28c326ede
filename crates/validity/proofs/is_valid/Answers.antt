-- `validity::is_valid` meets its contract: `valid_is` joins the tests of the names, of the clauses, of the days and of the separate place. Assumes nothing.
use Rattle.program.proofs.Nine.{valid_is}
use Rattle.validity.proofs.is_valid.Goals as goal

pub returns : goal.returns
returns c = search valid_is
