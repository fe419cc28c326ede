use mathlib.Core.Bool.{Bool, true, false, not}
use mathlib.Core.Path.{◌≡◌, ap}
use borrow.Author.Rules.{rules}
use Rattle.program.proofs.Picking.{pick_one, pick_skip, pick_done, pick_all}
use Rattle.program.proofs.Chosen.{columns_put, only_is}
use Rattle.table_only.proofs.only.Goals as goal
use Rattle.table_only.proofs.only.Goals.{then-is_chosen, else-is_chosen}

taken : {r : Bool} → r ≡ true → not r ≡ false
taken e = ap not e

left_out : {r : Bool} → r ≡ false → not r ≡ true
left_out e = ap not e

ruleset laws = (pick_one, pick_skip, taken, left_out, rules)

pub loop-k-preserved : goal.loop-k-preserved
loop-k-preserved c = elim c.if-is_chosen.branch [
  | then-is_chosen w ↦ rw (w.at-is, w.heads-is, w.bodies-is, w.nafs-is, w.firsts-is, w.lasts-is) (search laws)
  | else-is_chosen w ↦ rw (w.at-is, w.heads-is, w.bodies-is, w.nafs-is, w.firsts-is, w.lasts-is) (search laws)
]

-- the five columns
pub returns : goal.returns
returns c =
    let i = c.loop-k.invariant in
    let p = c.args.p in
    let all = c.loop-k-test.false in
    only_is p c.args.rows (search rules)
    (columns_put p _ _ _ _ _ _ c.nothing_held.ensures)
    (pick_done _ _ _ _ _ _ i.heads all)
    (pick_done _ _ _ _ _ _ i.bodies all)
    (pick_done _ _ _ _ _ _ i.nafs all)
    (pick_all _ _ _ _ _ _ i.firsts all)
    (pick_all _ _ _ _ _ _ i.lasts all)
