-- `checking::put_check` meets its contract: a refusal is its line, and else the finding is. Assumes nothing.
use Rattle.checking.proofs.Texts.{check_refused, check_found}
use Rattle.checking.proofs.put_check.Goals as goal

pub returns-in-Ok : goal.returns-in-Ok
returns-in-Ok c = search check_found

pub returns-in-Err : goal.returns-in-Err
returns-in-Err c = search check_refused
