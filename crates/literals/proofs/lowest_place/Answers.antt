-- `literals::lowest_place` meets its contract: the lowest member of a 64-bit word is below 64. Assumes nothing.
use native.Mathlib.Omega.{arith}
use Rattle.literals.proofs.Literals.{lowest_is}
use Rattle.literals.proofs.lowest_place.Goals as goal

pub returns : goal.returns
returns c = lowest_is c.args.s _ c.requires (omega arith) c.lowest.ensures
