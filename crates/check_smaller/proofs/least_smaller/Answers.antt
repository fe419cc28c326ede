use Rattle.sets.proofs.Least.{done, hit, start}
use Rattle.stable.proofs.Checking.{least_is, smaller_is, smaller_not, still_inside, walk_falls, walk_on}
use Rattle.check_smaller.proofs.least_smaller.Goals as goal

pub loop-j-init : goal.loop-j-init
loop-j-init c = search start

pub returns-then-first_violated-count : goal.returns-then-first_violated-count
returns-then-first_violated-count c = search (least_is, hit, smaller_is)

pub loop-j-smaller : goal.loop-j-smaller
loop-j-smaller c = search walk_falls

pub loop-j-preserved : goal.loop-j-preserved
loop-j-preserved c = search (walk_on, smaller_not, still_inside)

pub returns : goal.returns
returns c = search (least_is, done)
