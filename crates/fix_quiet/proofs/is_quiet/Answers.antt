-- `fix_quiet::is_quiet` meets its contract: it answers the contrary of what `stirred` answers of the full set. Assumes nothing.
use borrow.Author.Rules.{rules}
use Rattle.closure.proofs.Closing.{quiet_is}
use Rattle.fix_quiet.proofs.is_quiet.Goals as goal

pub returns : goal.returns
returns c = search (quiet_is, rules)
