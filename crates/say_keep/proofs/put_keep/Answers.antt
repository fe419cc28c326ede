-- `say_keep::put_keep` meets its contract: a refusal is its line, and else the book is printed. Assumes nothing.
use Rattle.holding.proofs.Texts.{held-ready, keep_taken, keep_refused}
use Rattle.say_keep.proofs.put_keep.Goals as goal

pub put_kept-requires : goal.put_kept-requires
put_kept-requires c = search held-ready

pub returns-in-Ok : goal.returns-in-Ok
returns-in-Ok c = search keep_taken

pub returns-in-Err : goal.returns-in-Err
returns-in-Err c = search keep_refused
