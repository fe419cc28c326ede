-- `table_days::day_rows` meets its contract: below k the rows of the day are gathered. Assumes nothing.
use Rattle.sets.proofs.Gathering.{Gathering}
use Rattle.program.specs.Clauses.{row_at}
use Rattle.program.specs.Days.{of_day}
use Rattle.table_days.proofs.day_rows.Given as goal

abbrev pub invariant-loop-k : goal.invariant-loop-k
invariant-loop-k l = Gathering (λ i. of_day l.p l.day (row_at l.p i)) 64 l.k l.rows
