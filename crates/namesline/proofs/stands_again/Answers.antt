-- `namesline::stands_again`: the library compares the item with each that stands behind the place. Assumes nothing.
use borrow.Author.Rules.{rules}
use borrow.Author.Tests.{tests}
use lib.Dec.{eqb}
use mathlib.Core.Path.{refl}
use Rattle.lists.specs.Bytes.{same}
use Rattle.std.proofs.lemmas.Iterator.Search.{any_from_yields_List}
use Rattle.std.proofs.lemmas.Iterator.Splits.{YieldsList-from_slice_split}
use Rattle.namesline.proofs.Items.{any_behind, none_behind}
use Rattle.namesline.proofs.stands_again.Goals as goal

pub returns-then-from-line : goal.returns-then-from-line
returns-then-from-line c =
    let road = YieldsList-from_slice_split _ (λ b. eqb b 32) _ c.split.ensures.rest c.split.ensures.done refl (λ x b q k. search (rules, tests)) in
    any_behind (same c.args.item.now) c.args.line.now c.args.from c.any.result c.if-from-line.true
    (any_from_yields_List (same c.args.item.now) _ _ _ c.any.ensures.ran road (λ x b q k. search (rules, tests)))

pub returns-else-from-line : goal.returns-else-from-line
returns-else-from-line c = none_behind (same c.args.item.now) c.args.line.now c.args.from c.if-from-line.false
