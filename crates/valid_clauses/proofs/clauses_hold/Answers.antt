use Rattle.program.proofs.NineRules.{laws}
use Rattle.valid_clauses.proofs.clauses_hold.Goals as goal

pub loop-k-init : goal.loop-k-init
loop-k-init c = search laws

pub returns-then-not-is_clause : goal.returns-then-not-is_clause
returns-then-not-is_clause c = search laws

pub loop-k-preserved : goal.loop-k-preserved
loop-k-preserved c = search laws

pub returns : goal.returns
returns c = search laws
