-- `fix_models::minimal_from` meets its contract: the run ends in a stage too large, or in one of which the minimal models are taken. Assumes nothing.
use borrow.Author.Rules.{rules}
use Rattle.stages.proofs.Taking.{final_rising, minimals-over, minimals_are}
use Rattle.fix_models.proofs.minimal_from.Goals as goal

pub returns-then-room-n : goal.returns-then-room-n
returns-then-room-n c = search minimals-over

pub minimal_of-requires : goal.minimal_of-requires
minimal_of-requires c = (search rules, search rules, search rules, search rules, search (final_rising, rules))

pub returns : goal.returns
returns c = search minimals_are
