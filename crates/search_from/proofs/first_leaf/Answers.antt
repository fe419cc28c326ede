use Rattle.node.proofs.Descending.{handed_root}
use Rattle.seek.proofs.Handing.{placed_root, at_root}
use Rattle.seek.proofs.Climbing.{all-nodes, no_nodes, climb_start, climb_skip, climb_has, climb_second, climb_found, climb_fits, climb_next, climb_done}
use Rattle.search_from.proofs.first_leaf.Goals as goal

pub with_undecided-last-requires : goal.with_undecided-last-requires
with_undecided-last-requires c = search placed_root

pub seek-requires-clause-at_node : goal.seek-requires-clause-at_node
seek-requires-clause-at_node c = search at_root

pub seek-requires-clause-handed : goal.seek-requires-clause-handed
seek-requires-clause-handed c = search handed_root

pub returns-then-from-eq0 : goal.returns-then-from-eq0
returns-then-from-eq0 c = search all-nodes

pub returns-then-last-from : goal.returns-then-last-from
returns-then-last-from c = search no_nodes

pub loop-k-init : goal.loop-k-init
loop-k-init c = search climb_start

pub loop-k-preserved-then-next-k-eq0 : goal.loop-k-preserved-then-next-k-eq0
loop-k-preserved-then-next-k-eq0 c = search climb_skip

pub overflow_sub-next : goal.overflow_sub-next
overflow_sub-next c = search climb_has

pub seek_second-found-requires : goal.seek_second-found-requires
seek_second-found-requires c = search climb_second

pub returns-then-found : goal.returns-then-found
returns-then-found c = search climb_found

pub overflow_add-next : goal.overflow_add-next
overflow_add-next c = search climb_fits

pub loop-k-preserved : goal.loop-k-preserved
loop-k-preserved c = search climb_next

pub returns : goal.returns
returns c = search climb_done
