-- `fix_combine::combine` meets its contract: all sets lie between `j` and `j` with what the heads offer. Assumes nothing.
use Rattle.heads.proofs.Scanning.{scan_all}
use Rattle.fix_combine.proofs.combine.Goals as goal

pub returns : goal.returns
returns c = search scan_all
