-- `summing::put_summarized` meets its contract: one law for each verdict of the summary. Assumes nothing.
use Rattle.summing.proofs.Texts.{summed_wrote, summed_refused}
use Rattle.summing.proofs.put_summarized.Goals as goal

pub returns-in-Ok : goal.returns-in-Ok
returns-in-Ok c = search summed_wrote

pub returns-in-Err : goal.returns-in-Err
returns-in-Err c = search summed_refused
