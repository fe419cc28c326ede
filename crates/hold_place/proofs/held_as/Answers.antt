-- `hold_place::held_as` meets its contract: `place_is`, with the two days as they are held. Assumes nothing.
use Rattle.held.proofs.Laws.{place_is}
use Rattle.hold_place.proofs.held_as.Goals as goal

pub returns : goal.returns
returns c = place_is _ _ _ _ _ _ c.day_held.ensures c.day_held-2.ensures
