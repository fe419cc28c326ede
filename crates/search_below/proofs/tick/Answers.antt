-- One law for each way to leave it: spent, counted. Assumes nothing.
use Rattle.seek.proofs.Visits.{tick_spent, tick_one}
use Rattle.search_below.proofs.tick.Goals as goal

pub returns-then-visited-node_limit : goal.returns-then-visited-node_limit
returns-then-visited-node_limit c = search tick_spent

pub returns : goal.returns
returns c = search tick_one
