use borrow.Author.Rules.{rules}
use lib.Seq.{length-take-le}
use Rattle.minimal.proofs.Earlier.{least-keep, least_skip}
use Rattle.minimal.proofs.Selecting.{sifting_done, sifting_fits, sifting_start}
use Rattle.fix_minimal.proofs.keep_minimal.Goals as goal
use Rattle.fix_minimal.proofs.keep_minimal.Goals.{then-minimal_among, else-minimal_among}

pub loop-w-init : goal.loop-w-init
loop-w-init c = search sifting_start

pub slice_bounds-minimal_among-end-in-loop-w : goal.slice_bounds-minimal_among-end-in-loop-w
slice_bounds-minimal_among-end-in-loop-w c = search (length-take-le, sifting_fits, rules)

pub loop-w-preserved : goal.loop-w-preserved
loop-w-preserved c = elim c.if-minimal_among.branch [ then-minimal_among w ↦ rw (w.kept-is, w.n-is) (search least-keep) | else-minimal_among w ↦ rw (w.kept-is, w.n-is) (search least_skip) ]

pub returns : goal.returns
returns c = search sifting_done
