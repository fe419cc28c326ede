use Rattle.closure.proofs.Closing.{closing, next_fits, close-over, close_last, close_less}
use Rattle.fix_close.proofs.close.Goals as goal

pub returns-then-p-m : goal.returns-then-p-m
returns-then-p-m c = search closing

pub returns-then-set-m : goal.returns-then-set-m
returns-then-set-m c =
    close-over _ _ _ _ _ _ c.loop-m.invariant _ c.least_from-p.ensures c.if-p-m.false _ _ c.expand-m.ensures c.if-set-m.true

pub returns-then-i : goal.returns-then-i
returns-then-i c =
    close_last _ _ _ _ _ _ c.loop-m.invariant _ c.least_from-p.ensures c.if-p-m.false _ _ c.expand-m.ensures
    c.if-set-m.false c.if-i.true c.slice_known-in-loop-m-2-1.given

pub overflow_add-from : goal.overflow_add-from
overflow_add-from c =
    next_fits _ (c.slice_known-in-loop-m-1.given _) c.if-i.false

pub loop-m-smaller : goal.loop-m-smaller
loop-m-smaller c =
    close_less _ _ _ _ _ _ c.loop-m.invariant _ c.least_from-p.ensures c.if-p-m.false (c.slice_known-in-loop-m-1.given _)

pub loop-m-preserved : goal.loop-m-preserved
loop-m-preserved c = search closing
