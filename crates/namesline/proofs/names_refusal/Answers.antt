-- `namesline::names_refusal` makes the tests of `refusal_tests`, one after another: the items of the first line are the names. Assumes nothing.
use borrow.Author.Rules.{rules}
use native.Mathlib.Omega.{arith}
use Rattle.std.proofs.lemmas.Grind.{common_steps}
use Rattle.namesline.proofs.Items.{front_long, refusal_tests}
use Rattle.namesline.proofs.names_refusal.Goals as goal

pub slice_bounds-names_line-end : goal.slice_bounds-names_line-end
slice_bounds-names_line-end c = search (front_long, rules)

pub returns-then-not-names : goal.returns-then-not-names
returns-then-not-names c = grind (arith, common_steps, refusal_tests _ _ _ c.requires c.names_end-e.ensures c.names_line-names.ensures)

pub returns-then-not-names-2 : goal.returns-then-not-names-2
returns-then-not-names-2 c = grind (arith, common_steps, refusal_tests _ _ _ c.requires c.names_end-e.ensures c.names_line-names.ensures)

pub returns-else-not-names-2 : goal.returns-else-not-names-2
returns-else-not-names-2 c = grind (arith, common_steps, refusal_tests _ _ _ c.requires c.names_end-e.ensures c.names_line-names.ensures)
