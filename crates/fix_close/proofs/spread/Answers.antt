use Rattle.closure.proofs.Closing.{spread_done, spread_over, spread_step}
use Rattle.fix_close.proofs.spread.Goals as goal

pub returns-then-set-m : goal.returns-then-set-m
returns-then-set-m c = search spread_over

pub loop-t-preserved : goal.loop-t-preserved
loop-t-preserved c =
    let k = c.in-Some.ensures.steps in
    rw k.others (spread_step _ _ _ _ _ _ _ c.loop-t.invariant _ _ _ _ k.some c.if-set-m.false k.lowest.place c.with.ensures c.add-m.ensures)

pub returns : goal.returns
returns c = spread_done _ _ _ _ _ _ _ c.loop-t.invariant c.in-None.ensures.steps.0
