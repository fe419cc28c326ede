-- `fix_models::minimal_models` meets its contract: stage 0 stands in the first place, and no place is no room for it. Assumes nothing.
use borrow.Author.Rules.{rules}
use borrow.Author.Tests.{eqb-true, eqb-false}
use lib.ListN.{length, length-set}
use mathlib.Core.Path.{◌≡◌, ◌∙◌}
use Rattle.sets.proofs.Tests.{via}
use Rattle.stages.proofs.Taking.{begins, minimals-empty, minimals_as}
use Rattle.fix_models.proofs.minimal_models.Goals as goal

pub returns-then-is_empty : goal.returns-then-is_empty
returns-then-is_empty c =
    let none : length c.args.first.now ≡ 0 = eqb-true _ _ (via c.is_empty.ensures c.if-is_empty.true) in
    search minimals-empty

pub minimal_from-requires : goal.minimal_from-requires
minimal_from-requires c =
    let some : length c.args.first.now ≡ 0 → ⊥ = eqb-false _ _ (via c.is_empty.ensures c.if-is_empty.false) in
    search (begins, rules)

pub shape_of-first : goal.shape_of-first
shape_of-first c = c.minimal_from.auto.first ∙ simp length-set

pub returns : goal.returns
returns c = search minimals_as
