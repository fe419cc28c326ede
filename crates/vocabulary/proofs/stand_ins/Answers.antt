-- No stand-in without a not-part, else as many as the head has literals. Assumes nothing.
use borrow.Author.Rules.{rules}
use Rattle.vocabulary.proofs.Counting.{counted-stand_ins, no_stand_ins, ones_most}
use Rattle.vocabulary.proofs.stand_ins.Goals as goal

pub returns-then-naf-eq0 : goal.returns-then-naf-eq0
returns-then-naf-eq0 c = search (no_stand_ins, rules)

pub returns-else-naf-eq0 : goal.returns-else-naf-eq0
returns-else-naf-eq0 c = search (counted-stand_ins, ones_most)
