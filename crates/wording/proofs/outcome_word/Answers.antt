-- `wording::outcome_word`: each arm has the bytes of the word. Assumes nothing.
use borrow.Author.Rules.{rules}
use Rattle.wording.specs.Printed.{outcome_word, refused_word}
use Rattle.wording.proofs.outcome_word.Goals as goal

pub returns-in-Ok-Complete : goal.returns-in-Ok-Complete
unfolding outcome_word refused_word
returns-in-Ok-Complete g c = search rules

pub returns-in-Ok-Full : goal.returns-in-Ok-Full
unfolding outcome_word refused_word
returns-in-Ok-Full g c = search rules

pub returns-in-Ok-Spent : goal.returns-in-Ok-Spent
unfolding outcome_word refused_word
returns-in-Ok-Spent g c = search rules

pub returns-in-Err : goal.returns-in-Err
unfolding outcome_word refused_word
returns-in-Err g c = search rules
