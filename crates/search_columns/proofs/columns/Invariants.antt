-- `search_columns::columns` meets its contract: the columns of the literals below `literal` are made. Assumes nothing.
use Rattle.columns.proofs.Filling.{Filling}
use Rattle.columns.proofs.Making.{OfLiteral}
use Rattle.search_columns.proofs.columns.Given as goal

abbrev pub invariant-loop-literal : goal.invariant-loop-literal
invariant-loop-literal l = Filling 24 24 48 (OfLiteral l.heads l.bodies l.nafs l.count) l.literal l.columns
