use Rattle.sets.proofs.Least.{done, hit, miss, start}
use Rattle.stable.proofs.Checking.{row_tested}
use Rattle.check_violated.proofs.first_violated_row.Goals as goal

pub loop-row-init : goal.loop-row-init
loop-row-init c = search start

pub returns-then-violates_row : goal.returns-then-violates_row
returns-then-violates_row c = search (hit, row_tested)

pub loop-row-preserved : goal.loop-row-preserved
loop-row-preserved c = search (miss, row_tested)

pub returns : goal.returns
returns c = search done
