-- `search_leaf::has_smaller` meets its contract: it calls itself with fewer undecided bits, and each way to return is a law. Assumes nothing.
use Rattle.search_leaf.proofs.+has_smaller.Given as goal

abbrev pub decreases-has_smaller : goal.decreases-has_smaller
decreases-has_smaller l = l.undecided
