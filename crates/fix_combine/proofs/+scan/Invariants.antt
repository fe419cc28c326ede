-- `fix_combine::scan` meets its contract: it calls itself with fewer free literals, and each way to return is a law. Assumes nothing.
use Rattle.fix_combine.proofs.+scan.Given as goal

abbrev pub decreases-scan : goal.decreases-scan
decreases-scan l = l.free
