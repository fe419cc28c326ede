use Rattle.namesline.proofs.Items.{naming_start, naming_more, naming_done}
use Rattle.namesline.proofs.names_line.Goals as goal

pub loop-at-init : goal.loop-at-init
loop-at-init c = search naming_start

pub loop-at-preserved : goal.loop-at-preserved
loop-at-preserved c = search naming_more

pub returns : goal.returns
returns c = search naming_done
