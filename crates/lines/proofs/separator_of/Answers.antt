-- `lines::separator_of`: the two sides of its test are the two cases of `separator`. Assumes nothing.
use Rattle.lines.proofs.Laying.{between, behind_last}
use Rattle.lines.proofs.separator_of.Goals as goal

pub returns-then-i-n : goal.returns-then-i-n
returns-then-i-n c = search between

pub returns-else-i-n : goal.returns-else-i-n
returns-else-i-n c = search behind_last
