-- `fix_offers::offered` meets its contract: the literals of the heads so far, joined with those of the rest, are all. Assumes nothing.
use Rattle.heads.proofs.Loops.{Joining}
use Rattle.fix_offers.proofs.offered.Given as goal

abbrev pub invariant-loop-head : goal.invariant-loop-head
invariant-loop-head l = Joining l.wide l.n l.all l.head-index
