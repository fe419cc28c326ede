-- `fix_offers::less` meets its contract: what is taken away is a part of `a`. Assumes nothing.
use Rattle.heads.proofs.Rules.{words}
use Rattle.fix_offers.proofs.less.Goals as goal

pub overflow_sub-result : goal.overflow_sub-result
overflow_sub-result c = search words

pub returns : goal.returns
returns c = search words
