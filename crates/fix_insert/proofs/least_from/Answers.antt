-- `fix_insert::least_from` meets its contract: each of the ways out is a law on the places in the two runs. Assumes nothing.
use borrow.Author.Tests.{eqb-false, ltb-true, ltb-false}
use Prim.Native.Nat.{◌+◌, ◌<◌, ◌≤◌}
use lib.ListN.{get_or}
use mathlib.Core.Path.{sym, ◌∙◌}
use Rattle.rising.proofs.Finding.{finding}
use Rattle.fix_insert.proofs.least_from.Goals as goal
use Rattle.fix_insert.proofs.least_from.Goals.{then-b-members, else-b-members}

pub place-a-requires : goal.place-a-requires
place-a-requires c = search finding

pub place-requires : goal.place-requires
place-requires c = search finding

pub returns-then-a-m : goal.returns-then-a-m
returns-then-a-m c = search finding

pub returns-then-set-a : goal.returns-then-set-a
returns-then-set-a c = elim c.if-b-members.branch [
  | then-b-members w ↦ search finding
  | else-b-members w ↦
      let less : get_or c.args.set.now c.place-a.result 0 < get_or c.args.set.now (c.first_run-m.result + c.place.result) 0 = ltb-true _ _ (sym w.value-is ∙ c.if-set-a.true) in
      search finding
]

pub returns-else-set-a : goal.returns-else-set-a
returns-else-set-a c = elim c.if-b-members.branch [
  | then-b-members w ↦ absurd (eqb-false _ _ (sym w.value-is ∙ c.if-set-a.false) w.if-b-members.true)
  | else-b-members w ↦
      let more : get_or c.args.set.now (c.first_run-m.result + c.place.result) 0 ≤ get_or c.args.set.now c.place-a.result 0 = ltb-false _ _ (sym w.value-is ∙ c.if-set-a.false) in
      search finding
]
