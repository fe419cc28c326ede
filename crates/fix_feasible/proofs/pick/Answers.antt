-- `fix_feasible::pick` meets its contract: the literal that is matched is tested, and the lowest is a literal of a word that has one. Assumes nothing.
use Rattle.heads.proofs.Rules.{words}
use Rattle.fix_feasible.proofs.pick.Goals as goal

pub returns-then-s-t-ne0 : goal.returns-then-s-t-ne0
returns-then-s-t-ne0 c = search words

pub returns-else-t-lt64 : goal.returns-else-t-lt64
returns-else-t-lt64 c = search words
