use Rattle.sets.proofs.Tests.{via}
use Rattle.sets.proofs.Lists.{lacks_start, lacks_more}
use Rattle.held.proofs.Laws.{stands_hit, stands_none}
use Rattle.hold_place.proofs.equal_stands.Goals as goal

pub loop-k-init : goal.loop-k-init
loop-k-init c = search lacks_start

pub returns-then-is_equal : goal.returns-then-is_equal
returns-then-is_equal c = search (stands_hit, via)

pub loop-k-preserved : goal.loop-k-preserved
loop-k-preserved c = search (lacks_more, via)

pub returns : goal.returns
returns c = search stands_none
