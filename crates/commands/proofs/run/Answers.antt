-- `commands::run` meets its contract: one law for a slice without room, one for a refused book, one for a book that was read. Assumes nothing.
use Rattle.say_words.proofs.Printing.{no_room, read-ready, run_read, run_refused}
use Rattle.commands.proofs.run.Goals as goal

pub returns-then-out-lt-MOST_BYTES : goal.returns-then-out-lt-MOST_BYTES
returns-then-out-lt-MOST_BYTES c = search no_room

pub put_command-requires : goal.put_command-requires
put_command-requires c = search read-ready

pub returns-in-Ok : goal.returns-in-Ok
returns-in-Ok c = search run_read

pub returns-in-Err : goal.returns-in-Err
returns-in-Err c = search run_refused
