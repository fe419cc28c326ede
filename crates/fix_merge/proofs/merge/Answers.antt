use Rattle.rising.proofs.Merging.{merging}
use Rattle.fix_merge.proofs.merge.Goals as goal

pub loop-q-init : goal.loop-q-init
loop-q-init c = search merging

pub overflow_sub-set : goal.overflow_sub-set
overflow_sub-set c = search merging

pub overflow_sub-p : goal.overflow_sub-p
overflow_sub-p c = search merging

pub loop-q-smaller-then-above : goal.loop-q-smaller-then-above
loop-q-smaller-then-above c = search merging

pub loop-q-preserved-then-above : goal.loop-q-preserved-then-above
loop-q-preserved-then-above c = search merging

pub loop-q-preserved : goal.loop-q-preserved
loop-q-preserved c = search merging

pub returns : goal.returns
returns c = search merging
