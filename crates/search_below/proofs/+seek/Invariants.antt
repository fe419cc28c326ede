-- It calls itself with fewer undecided bits; one law for each way to leave a node, and one for what each child is handed. That the first child comes first is left to `seek_first`. Assumes nothing.
use Rattle.search_below.proofs.+seek.Given as goal

abbrev pub decreases-seek : goal.decreases-seek
decreases-seek l = l.k
