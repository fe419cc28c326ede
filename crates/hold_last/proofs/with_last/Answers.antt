-- `hold_last::with_last` meets its contract: `kept_is`, once nothing is held. Assumes nothing.
use Rattle.held.proofs.Laws.{kept_is}
use Rattle.hold_last.proofs.with_last.Goals as goal

pub returns : goal.returns
returns c = search kept_is
