-- `hold_place::with_held` meets its contract: one field is put anew. Assumes nothing.
use mathlib.Core.Path.{refl}
use Rattle.program.specs.Held.{holding}
use Rattle.hold_place.proofs.with_held.Goals as goal

pub returns : goal.returns
unfolding holding
returns c = refl
