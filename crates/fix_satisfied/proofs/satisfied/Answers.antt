-- `fix_satisfied::satisfied` meets its contract: it answers the contrary of what `violated` answers. Assumes nothing.
use mathlib.Core.Bool.{not}
use mathlib.Core.Path.{ap}
use Rattle.fix_satisfied.proofs.satisfied.Goals as goal

pub returns : goal.returns
returns c = ap not c.violated.ensures
