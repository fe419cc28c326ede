use Rattle.parts.proofs.Collecting.{writing_end, writing_next, writing_small, writing_start, writing_there}
use Rattle.parts.proofs.write_models.Goals as goal

pub loop-p-init : goal.loop-p-init
loop-p-init c = search writing_start

pub overflow_cast-models : goal.overflow_cast-models
overflow_cast-models c = search writing_small

pub bounds-models-p : goal.bounds-models-p
bounds-models-p c = search writing_there

pub loop-p-preserved : goal.loop-p-preserved
loop-p-preserved c = search writing_next

pub returns : goal.returns
returns c = search writing_end
