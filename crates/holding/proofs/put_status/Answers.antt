-- `holding::put_status` meets its contract: one law for each word. Assumes nothing.
use Rattle.holding.proofs.Texts.{says_new, says-equal}
use Rattle.holding.proofs.put_status.Goals as goal

pub returns-in-New : goal.returns-in-New
returns-in-New c = search says_new

pub returns-in-Equal : goal.returns-in-Equal
returns-in-Equal c = search says-equal
