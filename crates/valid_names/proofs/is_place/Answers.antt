-- `valid_names::is_place` meets its contract: `place_tests`, with the place where the name ends. Assumes nothing.
use native.Mathlib.Omega.{arith}
use Rattle.std.proofs.lemmas.Grind.{common_steps}
use Rattle.valid_names.proofs.Ends.{place_tests}
use Rattle.valid_names.proofs.is_place.Goals as goal

pub returns-then-is_name : goal.returns-then-is_name
returns-then-is_name c = grind (arith, common_steps, place_tests _ _ c.end_of-n.ensures)

pub returns-else-is_name : goal.returns-else-is_name
returns-else-is_name c = grind (arith, common_steps, place_tests _ _ c.end_of-n.ensures)
