-- `records::record_at` meets its contract: `record_found` joins the three ends and the three places behind them. Assumes nothing.
use Rattle.records.proofs.Records.{record_found}
use Rattle.records.proofs.record_at.Goals as goal

pub returns : goal.returns
returns c = search record_found
