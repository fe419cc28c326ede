-- `lines::put_values_line`: the loop keeps `Laid`: the first `i` items of the line stand there. Assumes nothing.
use lib.ListN.{take}
use Rattle.text.specs.Lines.{values_line}
use Rattle.lines.specs.Laying.{item, number_at}
use Rattle.lines.proofs.Laying.{Laid}
use Rattle.lines.proofs.put_values_line.Given as goal

abbrev pub invariant-loop-i : goal.invariant-loop-i
invariant-loop-i l = Laid (item (number_at l.values) l.n) l.n (values_line (take l.n l.values)) l.initial.out l.at l.out l.i
