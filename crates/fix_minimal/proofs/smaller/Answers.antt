-- `fix_minimal::smaller` meets its contract: the library asks the words in turn. Assumes nothing.
use borrow.Author.Rules.{rules}
use borrow.Author.Tests.{tests}
use mathlib.Core.Bool.{true, false}
use mathlib.Core.Path.{◌≡◌}
use Rattle.std.proofs.lemmas.Iterator.{YieldsList-from_slice, cases_from_any}
use Rattle.minimal.specs.Minimal.{proper_in}
use Rattle.fix_minimal.proofs.Chains.{any_is}
use Rattle.fix_minimal.proofs.smaller.Goals as goal

pub returns : goal.returns
returns c =
    let p = proper_in c.args.w in
    any_is p c.args.list.now c.any.result (cases_from_any _ _ _ (λ v. p v ≡ true) (λ v. p v ≡ false) c.any.ensures.ran (YieldsList-from_slice c.args.list.now cc)
    (λ x q k. search (rules, tests)) (λ x q k. search (rules, tests)))
