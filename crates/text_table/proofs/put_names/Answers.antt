use borrow.Author.Rules.{rules}
use borrow.Author.Tests.{tests}
use lib.Dec.{eqb}
use lib.ListN.{length}
use mathlib.Core.Path.{refl, ap, ◌∙◌}
use Rattle.std.proofs.lemmas.Iterator.Consumers.{YieldsList-turn, YieldsList-end}
use Rattle.std.proofs.lemmas.Iterator.Splits.{YieldsList-from_slice_split}
use Rattle.std.proofs.lemmas.List.{length_push}
use Rattle.table_names.proofs.Chains.{split_pieces}
use Rattle.text_table.proofs.Names.{naming_room, naming_more, naming_done, naming_turn}
use Rattle.text_table.proofs.put_names.Goals as goal

pub put_bytes-requires : goal.put_bytes-requires
put_bytes-requires c =
    let road = YieldsList-from_slice_split _ (λ b. eqb b 32) c.args.line.now (cc) (cc) refl (λ x b q k. search (rules, tests)) in
    let t = naming_turn c.args.line.now _ _ (YieldsList-turn road c.loop-name.yielded _ c.loop-name.yielded_by _ _ c.in-Some.name c.in-Some.is c.next.ensures.steps) in
    naming_room _ _ _ _ _ _ c.loop-name.invariant t.0 t.1

pub loop-name-preserved : goal.loop-name-preserved
loop-name-preserved c =
    let road = YieldsList-from_slice_split _ (λ b. eqb b 32) c.args.line.now (cc) (cc) refl (λ x b q k. search (rules, tests)) in
    let t = naming_turn c.args.line.now _ _ (YieldsList-turn road c.loop-name.yielded _ c.loop-name.yielded_by _ _ c.in-Some.name c.in-Some.is c.next.ensures.steps) in
    rw (length_push c.loop-name.yielded c.in-Some.name) (naming_more _ _ _ _ _ _ c.loop-name.invariant t.0 t.1 _ _ c.put_bytes.ensures)

pub returns : goal.returns
returns c =
    let road = YieldsList-from_slice_split _ (λ b. eqb b 32) c.args.line.now (cc) (cc) refl (λ x b q k. search (rules, tests)) in
    let t = YieldsList-end road c.loop-name.yielded _ c.loop-name.yielded_by _ _ c.in-None.is c.next.ensures.steps in
    naming_done _ _ _ _ _ c.loop-name.invariant (t.1 ∙ ap length (split_pieces 32 c.args.line.now))
