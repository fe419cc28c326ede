-- `table_only::is_chosen` meets its contract. Assumes nothing.
use mathlib.Core.Path.{◌∙◌}
use borrow.Author.Tests.{lt-ltb, le-ltb}
use Rattle.program.proofs.Picking.{chosen_is}
use Rattle.table_only.proofs.is_chosen.Goals as goal

pub returns-then-k-count : goal.returns-then-k-count
returns-then-k-count c = rw (lt-ltb c.args.k c.args.count c.if-k-count.true) at (chosen_is c.args.rows c.args.count c.args.k)

pub returns-else-k-count : goal.returns-else-k-count
returns-else-k-count c = let e = le-ltb c.args.k c.args.count c.if-k-count.false in e ∙ (rw e at (chosen_is c.args.rows c.args.count c.args.k))
