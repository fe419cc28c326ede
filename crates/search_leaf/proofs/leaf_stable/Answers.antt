-- `search_leaf::leaf_stable` meets its contract by `leaf_tested`: of all subsets none is smaller. Assumes nothing.
use Rattle.leaf.proofs.Subsets.{leaf_tested}
use Rattle.leaf.proofs.Asking.{all-handed}
use Rattle.search_leaf.proofs.leaf_stable.Goals as goal

pub has_smaller-requires-clause-handed : goal.has_smaller-requires-clause-handed
has_smaller-requires-clause-handed c = search all-handed

pub returns : goal.returns
returns c = search leaf_tested
