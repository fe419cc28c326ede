use Rattle.lists.proofs.Loops.{sought, sought_end, sought_hit, sought_miss}
use Rattle.lists.proofs.end_of.Goals as goal

pub loop-i-init : goal.loop-i-init
loop-i-init c = search sought

pub returns-then-s-i : goal.returns-then-s-i
returns-then-s-i c = search sought_hit

pub loop-i-preserved : goal.loop-i-preserved
loop-i-preserved c = search sought_miss

pub returns : goal.returns
returns c = search sought_end
