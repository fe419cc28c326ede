-- `text_row_lines::put_row_lines`: the loop keeps `Laid`: the lines of the first `k` rows stand there. Assumes nothing.
use mathlib.Core.List.{flat_map}
use Rattle.text.specs.Lines.{values_line}
use Rattle.text.specs.Render.{numbers_of}
use Rattle.lines.proofs.Laying.{Laid}
use Rattle.text_row_lines.proofs.Texts.{row_line}
use Rattle.text_row_lines.proofs.put_row_lines.Given as goal

abbrev pub invariant-loop-k : goal.invariant-loop-k
invariant-loop-k l = Laid (row_line l.p) l.p.clause_count (flat_map values_line (numbers_of l.p)) l.initial.out l.at l.out l.k
