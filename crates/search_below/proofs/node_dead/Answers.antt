-- A node is dead where its test does not say alive: one law for each answer. Assumes nothing.
use Rattle.seek.proofs.Visits.{node-alive, node-violated, node-unsupported}
use Rattle.search_below.proofs.node_dead.Goals as goal

pub returns-in-Alive : goal.returns-in-Alive
returns-in-Alive c = search node-alive

pub returns-in-Violated : goal.returns-in-Violated
returns-in-Violated c = search node-violated

pub returns-in-Unsupported : goal.returns-in-Unsupported
returns-in-Unsupported c = search node-unsupported
