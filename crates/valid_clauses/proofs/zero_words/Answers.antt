-- `valid_clauses::zero_words` meets its contract: the library asks it of every word that is not skipped. Assumes nothing.
use mathlib.Core.Bool.{◌&&◌}
use mathlib.Core.Path.{refl, ◌∙◌}
use borrow.Author.Rules.{rules}
use borrow.Author.Tests.{tests}
use lib.Dec.{eqb}
use lib.ListN.{drop}
use Rattle.std.specs.List.{list_all}
use Rattle.std.proofs.lemmas.Iterator.{YieldsList-from_slice}
use Rattle.std.proofs.lemmas.Iterator.Adapters.{YieldsList-from_skip}
use Rattle.std.proofs.lemmas.Iterator.Search.{all_from_yields_List}
use Rattle.std.proofs.lemmas.List.Recursion.{same_from_clauses}
use Rattle.sets.specs.Lists.{every}
use Rattle.program.specs.Valid.{zero_from}
use Rattle.valid_clauses.proofs.zero_words.Goals as goal

pub returns : goal.returns
unfolding zero_from every
returns c =
    let xs = c.args.s.now in
    all_from_yields_List (eqb 0) _ _ _ c.all.ensures.ran (YieldsList-from_skip c.args.from (YieldsList-from_slice xs cc) cc) (λ x b q k. search (rules, tests))
    ∙ same_from_clauses (list_all (eqb 0)) (every (eqb 0)) (λ x b. eqb 0 x && b) refl (λ _ _. refl) (λ _ _. refl) (drop c.args.from xs)
