-- All are listed where there are places enough, and else as many as there are. Assumes nothing.
use Rattle.fix_answer.proofs.Answering.{listed_all, listed_some}
use Rattle.fix_list.proofs.answer.Goals as goal

pub returns-then-count-places : goal.returns-then-count-places
returns-then-count-places c = search listed_all

pub returns-else-count-places : goal.returns-else-count-places
returns-else-count-places c = search listed_some
