-- `fix_step::give` meets its contract: a barred member gives nothing, and else its choices are made with no head set aside yet. Assumes nothing.
use Rattle.operator.proofs.Stepping.{stepping, gives_all, gives_none}
use Rattle.fix_step.proofs.give.Goals as goal

pub returns-then-blocked : goal.returns-then-blocked
returns-then-blocked c = search gives_none

pub choose-requires : goal.choose-requires
choose-requires c = search stepping

pub returns : goal.returns
returns c = search gives_all
