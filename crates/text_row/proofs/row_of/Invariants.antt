-- `text_row::row_of` keeps `Rowed`: the numbers of the items so far stand in the row. Assumes nothing.
use mathlib.Core.List.{map}
use Rattle.text_row.proofs.Rows.{Rowed}
use Rattle.text_row.proofs.row_of.Given as goal

abbrev pub invariant-loop-item : goal.invariant-loop-item
invariant-loop-item l = Rowed (map (λ x. x.now) l.yielded) l.count l.values
