use mathlib.Core.Bool.{not}
use borrow.Author.Rules.{rules}
use lib.ListN.{get_or}
use mathlib.Core.Path.{◌≡◌, refl, ap}
use Rattle.sets.proofs.Tests.{via_true, via_false}
use Rattle.operator.proofs.Choosing.{choosing, at_end, passed, aside_room, put_aside, follow_start, follow_step, follow_over, follow_done}
use Rattle.fix_choose.proofs.+choose.Goals as goal

pub returns-then-k-count : goal.returns-then-k-count
returns-then-k-count t c = search at_end

pub returns-then-not-subset : goal.returns-then-not-subset
returns-then-not-subset t c = search (passed, via_false)

pub returns-then-sets_aside : goal.returns-then-sets_aside
returns-then-sets_aside t c = search (put_aside, via_true, aside_room)

pub loop-t-init : goal.loop-t-init
loop-t-init t c =
    let e : c.into_iter-t-iterator.result.rest ≡ get_or c.args.heads.now c.args.k 0 = search rules in
    rw e (follow_start _ _ _ _ _ _ _ _ _ (search choosing) (search choosing) _ refl
    (via_true c.subset.ensures (ap not c.if-not-subset.false)) (search choosing) (search choosing) (c.type_inv.heads _))

pub returns-then-set-m : goal.returns-then-set-m
returns-then-set-m t c = search follow_over

pub loop-t-preserved : goal.loop-t-preserved
loop-t-preserved t c =
    let k = c.in-Some.ensures.steps in
    rw k.others (follow_step _ _ _ _ _ _ _ _ _ _ _ _ _ c.loop-t.invariant _ _ _ _ _ k.some c.if-set-m.false k.lowest.place c.with-v.ensures c.choose-m.ensures)

pub returns : goal.returns
returns t c = follow_done _ _ _ _ _ _ _ _ _ _ _ _ _ c.loop-t.invariant c.in-None.ensures.steps.0
