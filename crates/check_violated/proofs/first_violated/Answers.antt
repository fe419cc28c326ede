use Rattle.sets.proofs.Least.{done, hit, miss, start}
use Rattle.stable.proofs.Checking.{tested}
use Rattle.check_violated.proofs.first_violated.Goals as goal

pub loop-k-init : goal.loop-k-init
loop-k-init c = search start

pub returns-then-violates_clause : goal.returns-then-violates_clause
returns-then-violates_clause c = search (hit, tested)

pub loop-k-preserved : goal.loop-k-preserved
loop-k-preserved c = search (miss, tested)

pub returns : goal.returns
returns c = search done
