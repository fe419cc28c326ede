-- `search_columns::column` meets its contract: below k the rows that have the literal are gathered. Assumes nothing.
use lib.ListN.{get_or}
use Rattle.sets.specs.Words.{bit}
use Rattle.sets.proofs.Gathering.{Gathering}
use Rattle.search_columns.proofs.column.Given as goal

abbrev pub invariant-loop-k : goal.invariant-loop-k
invariant-loop-k l = Gathering (λ i. bit (get_or l.words i 0) l.literal) l.count l.k l.rows
