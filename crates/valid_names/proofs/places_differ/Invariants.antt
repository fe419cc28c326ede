-- `valid_names::places_differ` meets its contract: no place below i stands again behind it. Assumes nothing.
use Rattle.lists.proofs.Loops.{Single}
use Rattle.program.specs.Names.{place}
use Rattle.valid_names.proofs.places_differ.Given as goal

abbrev pub invariant-loop-i : goal.invariant-loop-i
invariant-loop-i l = Single (place l.names) l.n l.i
