-- `checking::put_found` meets its contract: a short word and a number have room. Assumes nothing.
use borrow.Author.Rules.{rules}
use Rattle.checking.proofs.Texts.{numbered_fits}
use Rattle.checking.proofs.put_found.Goals as goal

pub put_numbered_line-requires : goal.put_numbered_line-requires
put_numbered_line-requires c = search (numbered_fits, rules)
