-- As many ones as the head has literals, `s` places up, are the word of its stand-ins. Assumes nothing.
use Rattle.rewriting.proofs.Becoming.{no_stands, ones_few, ones_fit, ones_some, stands_are, stands_up}
use Rattle.rewriting.proofs.stand_mask.Goals as goal

pub returns-then-head-eq0 : goal.returns-then-head-eq0
returns-then-head-eq0 c = search no_stands

pub overflow_cast-result : goal.overflow_cast-result
overflow_cast-result c = search ones_fit

pub overflow_shl-result : goal.overflow_shl-result
overflow_shl-result c = search ones_few

pub overflow_sub-result : goal.overflow_sub-result
overflow_sub-result c = search ones_some

pub overflow_shl-result-2 : goal.overflow_shl-result-2
overflow_shl-result-2 c = search stands_up

pub returns : goal.returns
returns c = search stands_are
