use borrow.Author.Rules.{rules}
use borrow.Author.Tests.{tests}
use lib.Dec.{eqb}
use mathlib.Core.List.{map-append}
use mathlib.Core.Path.{refl, ◌∙◌}
use Rattle.std.proofs.lemmas.Iterator.Consumers.{YieldsList-end}
use Rattle.std.proofs.lemmas.Iterator.Splits.{YieldsList-from_slice_split}
use Rattle.table_names.proofs.Chains.{split_pieces}
use Rattle.text_row.proofs.Rows.{row_start, row_more, row_done}
use Rattle.text_row.proofs.row_of.Goals as goal

pub loop-item-init : goal.loop-item-init
loop-item-init c = row_start

pub loop-item-preserved : goal.loop-item-preserved
loop-item-preserved c = rw map-append (row_more _ _ _ _ _ _ c.loop-item.invariant c.value_of.ensures c.keep.ensures)

pub returns : goal.returns
returns c =
    let road = YieldsList-from_slice_split _ (λ b. eqb b 32) c.args.line.now (cc) (cc) refl (λ x b q k. search (rules, tests)) in
    let t = YieldsList-end road c.loop-item.yielded _ c.loop-item.yielded_by _ _ c.in-None.is c.next.ensures.steps in
    row_done _ _ _ _ c.loop-item.invariant (t.0 ∙ split_pieces 32 c.args.line.now)
