-- `search_rows::rules_out` meets its contract: three words are zero where their union is (`ruled_out`). Assumes nothing.
use Rattle.leaf.proofs.Words.{ruled_out}
use native.Mathlib.Omega.{arith}
use lib.Bits.{and_le_l}
use Rattle.search_rows.proofs.rules_out.Goals as goal

pub overflow_sub-result : goal.overflow_sub-result
overflow_sub-result c = omega (arith, and_le_l c.args.body c.args.w)

pub returns : goal.returns
returns c = search ruled_out
