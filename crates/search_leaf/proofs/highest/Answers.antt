-- `search_leaf::highest` meets its contract: it is the law of the highest bit at 32 bits. Assumes nothing.
use native.Mathlib.Omega.{arith}
use Rattle.sets.proofs.Highest.{leading_few}
use Rattle.leaf.proofs.Words.{highest_place}
use Rattle.search_leaf.proofs.highest.Goals as goal

pub overflow_sub-result : goal.overflow_sub-result
overflow_sub-result c = leading_few 32 c.args.x c.requires (omega arith)

pub returns : goal.returns
returns c = highest_place c.args.x c.requires (omega arith)
