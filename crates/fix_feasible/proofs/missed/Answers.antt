-- `fix_feasible::missed` meets its contract: the library asks the heads in turn. Assumes nothing.
use borrow.Author.Rules.{rules}
use borrow.Author.Tests.{tests}
use lib.ListN.{take}
use mathlib.Core.Bool.{true, false}
use mathlib.Core.Path.{◌≡◌}
use native.Mathlib.Omega.{arith}
use Rattle.std.proofs.lemmas.Iterator.{YieldsList-from_slice, cases_from_any}
use Rattle.sets.specs.Words.{apart}
use Rattle.fix_feasible.proofs.Chains.{any_is}
use Rattle.fix_feasible.proofs.missed.Goals as goal

pub returns : goal.returns
returns c =
    let p = apart c.args.v in
    any_is p c.args.wide.now c.args.n c.any.result (omega arith) (cases_from_any _ _ _ (λ h. p h ≡ true) (λ h. p h ≡ false) c.any.ensures.ran
    (YieldsList-from_slice (take c.args.n c.args.wide.now) cc) (λ x q k. search (rules, tests)) (λ x q k. search (rules, tests)))
