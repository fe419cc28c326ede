-- `lines::name_length`: a name ends where the first zero of its place stands. Assumes nothing.
use Rattle.lines.proofs.Names.{name_spans}
use Rattle.lines.proofs.name_length.Goals as goal

pub returns : goal.returns
returns c = search name_spans
