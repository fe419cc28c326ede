-- `valid_names::is_named` meets its contract: `named_is`, with the place where the name ends. Assumes nothing.
use Rattle.program.proofs.NineRules.{laws}
use Rattle.valid_names.proofs.is_named.Goals as goal

pub returns : goal.returns
returns c = search laws
