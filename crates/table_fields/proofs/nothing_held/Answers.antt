-- `table_fields::nothing_held` meets its contract, field by field; written out so that a wrong field is refused here. Assumes nothing.
use mathlib.Core.Path.{refl}
use Rattle.table_fields.proofs.nothing_held.Goals as goal

pub returns : goal.returns
returns c = refl
