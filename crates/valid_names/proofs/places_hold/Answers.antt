use Rattle.program.proofs.NineRules.{laws}
use Rattle.valid_names.proofs.places_hold.Goals as goal

pub loop-i-init : goal.loop-i-init
loop-i-init c = search laws

pub returns-then-not-place_holds : goal.returns-then-not-place_holds
returns-then-not-place_holds c = search laws

pub loop-i-preserved : goal.loop-i-preserved
loop-i-preserved c = search laws

pub returns : goal.returns
returns c = search laws
