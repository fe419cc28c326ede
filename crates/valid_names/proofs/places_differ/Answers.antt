use Rattle.program.proofs.NineRules.{laws}
use Rattle.valid_names.proofs.places_differ.Goals as goal

pub loop-i-init : goal.loop-i-init
loop-i-init c = search laws

pub returns-then-repeated : goal.returns-then-repeated
returns-then-repeated c = search laws

pub loop-i-preserved : goal.loop-i-preserved
loop-i-preserved c = search laws

pub returns : goal.returns
returns c = search laws
