-- `wording::put_outcome`: the word is that of the outcome. Assumes nothing.
use Rattle.wording.proofs.put_outcome.Goals as goal

pub put_worded_line-requires : goal.put_worded_line-requires
put_worded_line-requires g c = rw c.outcome_word.ensures c.requires

pub returns : goal.returns
returns g c = rw (← c.outcome_word.ensures) c.put_worded_line.ensures
