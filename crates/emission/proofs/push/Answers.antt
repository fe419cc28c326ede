-- One clause more stands in both slices. Assumes nothing.
use Rattle.emission.proofs.Emit.{emits_one}
use Rattle.emission.proofs.push.Goals as goal

pub returns : goal.returns
returns c = search emits_one
