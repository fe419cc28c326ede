-- `holding::put_hold` meets its contract: a refusal is its line, and else the status is. Assumes nothing.
use Rattle.holding.proofs.Texts.{hold_taken, hold_refused}
use Rattle.holding.proofs.put_hold.Goals as goal

pub returns-in-Ok : goal.returns-in-Ok
returns-in-Ok c = search hold_taken

pub returns-in-Err : goal.returns-in-Err
returns-in-Err c = search hold_refused
