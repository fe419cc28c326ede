-- `fix_run::same_words` meets its contract: the library compares word by word. Assumes nothing.
use mathlib.Core.Path.{◌∙◌}
use Rattle.lists.proofs.Loops.{is_same}
use Rattle.fix_run.proofs.same_words.Goals as goal

pub returns : goal.returns
returns c = c.eq.ensures ∙ is_same c.args.a.now c.args.b.now
