use Rattle.sets.proofs.Tests.{via}
use Rattle.minimal.proofs.Selecting.{sifting_start, sifting_keep, sifting_skip, sifting_done}
use Rattle.fix_minimal.proofs.keep_models.Goals as goal
use Rattle.fix_minimal.proofs.keep_models.Goals.{then-satisfied, else-satisfied}

pub loop-w-init : goal.loop-w-init
loop-w-init c = search sifting_start

pub loop-w-preserved : goal.loop-w-preserved
loop-w-preserved c = elim c.if-satisfied.branch [ then-satisfied w ↦ rw (w.kept-is, w.n-is) (search (sifting_keep, via)) | else-satisfied w ↦ rw (w.kept-is, w.n-is) (search (sifting_skip, via)) ]

pub returns : goal.returns
returns c = search sifting_done
