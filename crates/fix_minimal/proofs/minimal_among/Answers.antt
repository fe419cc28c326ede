-- `fix_minimal::minimal_among` meets its contract: it answers the contrary of what `smaller` answers. Assumes nothing.
use mathlib.Core.Bool.{not}
use mathlib.Core.Path.{ap}
use Rattle.fix_minimal.proofs.minimal_among.Goals as goal

pub returns : goal.returns
returns c = ap not c.smaller.ensures
