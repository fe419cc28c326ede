-- `valid_names::place_of` meets its contract: the eight bytes that are lent are the place with the number i. Assumes nothing.
use Rattle.program.proofs.Places.{place_part}
use Rattle.valid_names.proofs.place_of.Goals as goal

pub returns : goal.returns
returns c = place_part c.args.names.now c.args.i
