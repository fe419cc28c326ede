-- A mask of `m` ones keeps the literal part. Assumes nothing.
use Rattle.parts.proofs.Collecting.{low_is, low_one}
use Rattle.parts.proofs.low_part.Goals as goal

pub overflow_sub-result : goal.overflow_sub-result
overflow_sub-result c = search low_one

pub returns : goal.returns
returns c = search low_is
