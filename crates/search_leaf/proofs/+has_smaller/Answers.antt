use borrow.Author.Rules.{rules}
use mathlib.Core.Path.{◌∙◌}
use Rattle.leaf.proofs.Subsets.{branch_cut, branch_end, branch_out, branch_in}
use Rattle.leaf.proofs.Asking.{asked_of_all, literal-small, literal_fits, literal_top, literal_highest, literal_within, literal_falls, out_handed, in_handed}
use Rattle.search_leaf.proofs.+has_smaller.Goals as goal

pub returns-then-some_rules_out : goal.returns-then-some_rules_out
returns-then-some_rules_out t c = search (branch_cut, asked_of_all)

pub returns-then-undecided-eq0 : goal.returns-then-undecided-eq0
returns-then-undecided-eq0 t c = search (branch_end, asked_of_all, rules)

pub overflow_shl-top : goal.overflow_shl-top
overflow_shl-top t c = search literal_fits

pub overflow_sub-rest : goal.overflow_sub-rest
overflow_sub-rest t c = search literal_within

pub mentions-requires : goal.mentions-requires
mentions-requires t c = search literal-small

pub has_smaller-requires : goal.has_smaller-requires
has_smaller-requires t c = (search literal_falls, (search rules, search (out_handed, literal_top, literal_highest)))

pub returns-then-has_smaller : goal.returns-then-has_smaller
returns-then-has_smaller t c = c.if-has_smaller.true ∙ search (branch_out, literal_highest)

pub has_smaller-requires-else-has_smaller : goal.has_smaller-requires-else-has_smaller
has_smaller-requires-else-has_smaller t c = (search literal_falls, (search rules, search (in_handed, literal_top, literal_highest)))

pub returns-else-has_smaller : goal.returns-else-has_smaller
returns-else-has_smaller t c = search (branch_in, literal_highest)
