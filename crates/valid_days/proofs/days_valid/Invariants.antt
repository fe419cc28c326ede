-- `valid_days::days_valid` meets its contract: the days at all places below k fit. Assumes nothing.
use Rattle.program.proofs.Nine.{Fitting}
use Rattle.valid_days.proofs.days_valid.Given as goal

abbrev pub invariant-loop-k : goal.invariant-loop-k
invariant-loop-k l = Fitting l.dated l.firsts l.lasts l.count l.k
