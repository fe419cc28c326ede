use Rattle.closure.proofs.Closing.{offer_start, offer_fired, offer_not, offer_done}
use Rattle.fix_quiet.proofs.offered_at.Goals as goal
use Rattle.fix_quiet.proofs.offered_at.Goals.{then-subset, else-subset}

pub loop-k-init : goal.loop-k-init
loop-k-init c = search offer_start

pub loop-k-preserved : goal.loop-k-preserved
loop-k-preserved c = elim c.if-subset.branch [ then-subset w ↦ rw w.all-is (search offer_fired) | else-subset w ↦ rw w.all-is (search offer_not) ]

pub returns : goal.returns
returns c = search offer_done
