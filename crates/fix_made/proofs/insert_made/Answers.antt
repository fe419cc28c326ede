-- `fix_made::insert_made` meets its contract: whether the word is among the sets decides what is put in. Assumes nothing.
use Rattle.heads.proofs.Scanning.{one_not, one_put}
use Rattle.heads.proofs.Reaching.{try_whole}
use Rattle.fix_made.proofs.insert_made.Goals as goal

pub returns-then-made : goal.returns-then-made
returns-then-made c = search (one_put, try_whole)

pub returns-else-made : goal.returns-else-made
returns-else-made c = search (one_not, try_whole)
