use Rattle.vocabulary.proofs.Counting.{tally_done, tally_few, tally_start, tally_step}
use Rattle.vocabulary.proofs.count_stand_ins.Goals as goal

pub loop-k-init : goal.loop-k-init
loop-k-init c = search tally_start

pub loop-k-preserved : goal.loop-k-preserved
loop-k-preserved c = search tally_step

pub returns : goal.returns
returns c = search (tally_done, tally_few)
