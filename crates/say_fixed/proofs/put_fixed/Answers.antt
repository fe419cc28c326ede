-- `say_fixed::put_fixed` meets its contract: a refusal is its line, and the other arm is told that the outcome is none. Assumes nothing.
use Rattle.say_fixed.proofs.Texts.{fixed_refused_lem, fixed-ended}
use Rattle.say_fixed.proofs.put_fixed.Goals as goal

pub returns-in-Err : goal.returns-in-Err
returns-in-Err c = search fixed_refused_lem

pub returns-in-Ok : goal.returns-in-Ok
returns-in-Ok c = search fixed-ended
