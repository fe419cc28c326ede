-- `valid_names::places_hold` meets its contract: all places below i hold a name, the loop law of a layout. Assumes nothing.
use Rattle.sets.proofs.Lists.{Kept}
use Rattle.program.specs.Names.{place}
use Rattle.program.specs.Valid.{is_place}
use Rattle.valid_names.proofs.places_hold.Given as goal

abbrev pub invariant-loop-i : goal.invariant-loop-i
invariant-loop-i l = Kept (place l.names) l.n is_place l.i
