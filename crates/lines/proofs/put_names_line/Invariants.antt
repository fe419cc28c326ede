-- `lines::put_names_line`: the loop keeps `Laid`: the first `i` items of the line stand there. Assumes nothing.
use Rattle.sets.specs.Lists.{tabulate}
use Rattle.program.specs.Names.{name_at}
use Rattle.text.specs.Lines.{names_line}
use Rattle.lines.specs.Laying.{item}
use Rattle.lines.proofs.Laying.{Laid}
use Rattle.lines.proofs.put_names_line.Given as goal

abbrev pub invariant-loop-i : goal.invariant-loop-i
invariant-loop-i l = Laid (item (name_at l.names) l.n) l.n (names_line (tabulate (name_at l.names) l.n)) l.initial.out l.at l.out l.i
