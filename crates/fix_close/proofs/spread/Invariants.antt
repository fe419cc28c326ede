-- `fix_close::spread` meets its contract: the literals that are left are still to be put in. Assumes nothing.
use Rattle.closure.proofs.Closing.{Spreading}
use Rattle.fix_close.proofs.spread.Given as goal

abbrev pub invariant-loop-t : goal.invariant-loop-t
invariant-loop-t l = Spreading l.i l.rest l.initial.set l.members l.set l.m l.t-iterator.rest
