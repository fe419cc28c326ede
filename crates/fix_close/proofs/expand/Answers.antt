-- `fix_close::expand` meets its contract: what a quiet member gives is put in literal by literal, and any other gives its choices. Assumes nothing.
use Rattle.closure.proofs.Closing.{expand_quiet, expand_else}
use Rattle.fix_close.proofs.expand.Goals as goal

pub returns-then-is_quiet : goal.returns-then-is_quiet
returns-then-is_quiet c = search expand_quiet

pub returns : goal.returns
returns c = search expand_else
