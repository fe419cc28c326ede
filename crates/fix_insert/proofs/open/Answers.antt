-- `fix_insert::open` meets its contract: the members copied one place up are the opened list. Assumes nothing.
use mathlib.Core.Path.{◌∙◌}
use Rattle.fix_insert.proofs.Places.{moved}
use Rattle.fix_insert.proofs.open.Goals as goal

pub returns : goal.returns
returns c = c.copy_within.ensures.after ∙ moved c.args.set.now c.args.at c.args.members c.requires.0
