-- `records::number_at` meets its contract: `number_found` joins the end, the number up to it and the place behind it. Assumes nothing.
use Rattle.records.proofs.Records.{number_found}
use Rattle.records.proofs.number_at.Goals as goal

pub returns : goal.returns
returns c = search number_found
