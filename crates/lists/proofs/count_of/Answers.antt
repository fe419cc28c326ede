-- `lists::count_of` meets its contract: the library counts the bytes that pass. Assumes nothing.
use Rattle.lists.proofs.Loops.{count_of_passing}
use borrow.Author.Rules.{rules}
use Rattle.lists.proofs.count_of.Goals as goal

pub returns : goal.returns
returns c = search (count_of_passing, rules)
