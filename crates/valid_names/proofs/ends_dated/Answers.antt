-- `valid_names::ends_dated` meets its contract: its tests are those of `ends_tests`, one after another. Assumes nothing.
use native.Mathlib.Omega.{arith}
use Rattle.std.proofs.lemmas.Grind.{common_steps}
use Rattle.valid_names.proofs.Ends.{ends_tests}
use Rattle.valid_names.proofs.ends_dated.Goals as goal

pub returns-then-name_is : goal.returns-then-name_is
returns-then-name_is c = grind (arith, common_steps, ends_tests)

pub returns-else-name_is : goal.returns-else-name_is
returns-else-name_is c = grind (arith, common_steps, ends_tests)
