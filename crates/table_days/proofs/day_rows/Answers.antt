use borrow.Author.Rules.{rules}
use Rattle.sets.proofs.Gathering.{gather_start, gather_in, gather_out}
use Rattle.sets.proofs.Tests.{via}
use Rattle.program.proofs.Days.{day_gathered}
use Rattle.table_days.proofs.day_rows.Goals as goal
use Rattle.table_days.proofs.day_rows.Goals.{then-is_of_day, else-is_of_day}

pub loop-k-init : goal.loop-k-init
loop-k-init c = search (gather_start, rules)

pub loop-k-preserved : goal.loop-k-preserved
loop-k-preserved c = elim c.if-is_of_day.branch [ then-is_of_day w ↦ rw w.rows-is (search (gather_in, via, rules)) | else-is_of_day w ↦ rw w.rows-is (search (gather_out, via, rules)) ]

pub returns : goal.returns
returns c = search (day_gathered, rules)
