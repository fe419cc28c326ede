-- `summary_values::shown_at` meets its contract: `shown_in` for an atom of the program, `shown_out` for another. Assumes nothing.
use Rattle.summary.proofs.Laws.{shown_in, shown_out}
use Rattle.summary_values.proofs.shown_at.Goals as goal

pub returns-then-i-n : goal.returns-then-i-n
returns-then-i-n c = search shown_in

pub returns-else-i-n : goal.returns-else-i-n
returns-else-i-n c = search shown_out
