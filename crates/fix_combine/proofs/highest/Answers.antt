-- `fix_combine::highest` meets its contract: it is the law of the highest bit at 64 bits. Assumes nothing.
use native.Mathlib.Omega.{arith}
use Rattle.sets.proofs.Highest.{leading_few, highest_is}
use Rattle.fix_combine.proofs.highest.Goals as goal

pub overflow_sub-result : goal.overflow_sub-result
overflow_sub-result c = leading_few 64 c.args.s c.requires (omega arith)

pub overflow_shl-result : goal.overflow_shl-result
overflow_shl-result c = omega arith

pub returns : goal.returns
returns c = highest_is 64 c.args.s c.requires (omega arith)
