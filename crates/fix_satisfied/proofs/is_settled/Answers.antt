-- `fix_satisfied::is_settled` meets its contract: the library asks the members in turn. Assumes nothing.
use borrow.Author.Rules.{rules}
use borrow.Author.Tests.{tests}
use mathlib.Core.Bool.{true, false}
use mathlib.Core.Path.{◌≡◌}
use Rattle.std.proofs.lemmas.Iterator.{YieldsList-from_slice, cases_from_all}
use Rattle.sets.specs.Lists.{tabulate}
use Rattle.operator.specs.Operator.{rule_at}
use Rattle.minimal.specs.Minimal.{satisfies}
use Rattle.fix_satisfied.proofs.Chains.{all_is}
use Rattle.fix_satisfied.proofs.is_settled.Goals as goal

pub returns : goal.returns
returns c =
    let p = satisfies (tabulate (rule_at c.args.heads.now c.args.bodies.now) c.args.count) in
    all_is p c.args.stage.now c.all.result (cases_from_all _ _ _ (λ w. p w ≡ true) (λ w. p w ≡ false) c.all.ensures.ran (YieldsList-from_slice c.args.stage.now cc)
    (λ x q k. search (rules, tests)) (λ x q k. search (rules, tests)))
