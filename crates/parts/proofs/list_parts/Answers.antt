-- The set that `collect` forms is what is listed. Assumes nothing.
use Rattle.parts.proofs.Collecting.{parts_fit, small_parts, overwrites}
use Rattle.parts.proofs.list_parts.Goals as goal

pub write_models-requires : goal.write_models-requires
write_models-requires c = (search parts_fit, search small_parts)

pub returns : goal.returns
returns c = search overwrites
