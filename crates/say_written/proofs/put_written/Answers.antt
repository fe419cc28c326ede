-- `say_written::put_written` meets its contract: with room for its text the writer never refuses a table that 9 does not refuse. Assumes nothing.
use borrow.Author.Rules.{rules}
use Rattle.program.proofs.Validity.{typed}
use Rattle.say_written.proofs.Written.{text_wrote, never_refused}
use Rattle.say_written.proofs.put_written.Goals as goal

pub returns-in-Ok : goal.returns-in-Ok
returns-in-Ok c = search (text_wrote, typed, rules)

pub returns-in-Err : goal.returns-in-Err
returns-in-Err c = search (never_refused, typed, rules)
