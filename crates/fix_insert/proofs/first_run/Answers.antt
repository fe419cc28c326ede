-- `fix_insert::first_run` meets its contract: it is the definition. Assumes nothing.
use borrow.Author.Rules.{rules}
use Rattle.rising.specs.Growing.{first_run}
use Rattle.fix_insert.proofs.first_run.Goals as goal

pub returns : goal.returns
unfolding first_run
returns c = search rules
