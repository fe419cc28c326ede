-- `fix_satisfied::violated` meets its contract: the library asks the clauses in turn. Assumes nothing.
use borrow.Author.Rules.{rules}
use borrow.Author.Tests.{tests}
use mathlib.Core.Bool.{true, false}
use mathlib.Core.Path.{◌≡◌}
use native.Mathlib.Nat.{sub-zero}
use Rattle.std.proofs.lemmas.Iterator.{YieldsList-from_range, cases_from_any}
use Rattle.operator.specs.Operator.{rule_at}
use Rattle.minimal.specs.Minimal.{violates}
use Rattle.fix_satisfied.proofs.Chains.{any_is}
use Rattle.fix_satisfied.proofs.violated.Goals as goal

pub returns : goal.returns
returns c =
    let rule = rule_at c.args.heads.now c.args.bodies.now in
    any_is rule (violates c.args.w) c.args.count c.any.result (cases_from_any _ _ _ (λ k. violates c.args.w (rule k) ≡ true) (λ k. violates c.args.w (rule k) ≡ false) c.any.ensures.ran
    (YieldsList-from_range 0 c.args.count c.args.count (cc) (sub-zero c.args.count)) (λ x q k. search (rules, tests)) (λ x q k. search (rules, tests)))
