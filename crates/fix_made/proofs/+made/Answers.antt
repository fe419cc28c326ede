use Rattle.heads.proofs.Rules.{tries}
use Rattle.fix_made.proofs.+made.Goals as goal

pub returns-then-k-n : goal.returns-then-k-n
returns-then-k-n t c = search tries

pub loop-rest-init : goal.loop-rest-init
loop-rest-init t c = search tries

pub returns-then-made : goal.returns-then-made
returns-then-made t c = search tries

pub loop-rest-smaller : goal.loop-rest-smaller
loop-rest-smaller t c = search tries

pub loop-rest-preserved : goal.loop-rest-preserved
loop-rest-preserved t c = search tries

pub returns : goal.returns
returns t c = search tries
