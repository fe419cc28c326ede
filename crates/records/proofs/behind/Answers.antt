-- `records::behind` meets its contract: `behind_end` where all ends, else `behind_next`. Assumes nothing.
use Rattle.records.proofs.Records.{behind_end, behind_next}
use Rattle.records.proofs.behind.Goals as goal

pub returns-then-length-end : goal.returns-then-length-end
returns-then-length-end c = search behind_end

pub returns-else-length-end : goal.returns-else-length-end
returns-else-length-end c = search behind_next
