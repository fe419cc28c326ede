-- `decimal::read_number` meets its contract: the loop's invariant: the first i bytes are the decimal text of v, which is at most the bound. Assumes nothing.
use Rattle.decimal.proofs.Reading.{Parsing}
use Rattle.decimal.proofs.read_number.Given as goal

abbrev pub invariant-loop-i : goal.invariant-loop-i
invariant-loop-i l = Parsing l.s l.bound l.i l.v
