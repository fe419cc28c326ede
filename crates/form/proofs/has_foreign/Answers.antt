-- `form::has_foreign`: the library asks the test of every byte. Assumes nothing.
use mathlib.Core.Bool.{◌||◌}
use mathlib.Core.Path.{refl, ◌∙◌}
use borrow.Author.Rules.{rules}
use borrow.Author.Tests.{tests}
use Rattle.std.specs.List.{list_any}
use Rattle.std.proofs.lemmas.Iterator.{YieldsList-from_slice}
use Rattle.std.proofs.lemmas.Iterator.Search.{any_from_yields_List}
use Rattle.std.proofs.lemmas.List.Recursion.{same_from_clauses}
use Rattle.sets.specs.Lists.{any_of}
use Rattle.text.specs.Refusals.{is_foreign, has_foreign}
use Rattle.form.proofs.has_foreign.Goals as goal

pub returns : goal.returns
unfolding has_foreign any_of
returns c =
    let xs = c.args.text.now in
    any_from_yields_List is_foreign _ _ _ c.any.ensures.ran (YieldsList-from_slice xs cc) (λ x b q k. search (rules, tests))
    ∙ same_from_clauses (list_any is_foreign) (any_of is_foreign) (λ x b. is_foreign x || b) refl (λ _ _. refl) (λ _ _. refl) xs
