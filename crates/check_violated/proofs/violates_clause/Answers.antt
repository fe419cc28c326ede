-- `check_violated::violates_clause` meets its contract: the three tests are the definition's. Assumes nothing.
use Rattle.semantics.specs.Interpretations.{violates}
use mathlib.Core.Path.{refl}
use Rattle.check_violated.proofs.violates_clause.Goals as goal

pub returns : goal.returns
unfolding violates
returns c = refl
