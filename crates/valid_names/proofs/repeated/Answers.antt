use Rattle.program.proofs.NineRules.{laws}
use Rattle.valid_names.proofs.repeated.Goals as goal

pub returns-then-same_places : goal.returns-then-same_places
returns-then-same_places c = search laws

pub loop-j-preserved : goal.loop-j-preserved
loop-j-preserved c = search laws

pub returns : goal.returns
returns c = search laws
