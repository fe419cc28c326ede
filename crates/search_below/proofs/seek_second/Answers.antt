-- `search_below::seek_second` meets its contract: the rows in play at the node, and from them what its second child is handed. Assumes nothing.
use lib.Bits.{and_le_l}
use Rattle.seek.proofs.Handing.{second_one, second_word, second_fits, second_at, second-handed, second-sought}
use Rattle.search_below.proofs.seek_second.Goals as goal

pub overflow_add-second : goal.overflow_add-second
overflow_add-second c = search second_word

pub overflow_sub-bit : goal.overflow_sub-bit
overflow_sub-bit c = search second_one

pub overflow_add-second-2 : goal.overflow_add-second-2
overflow_add-second-2 c = search second_fits

pub overflow_sub-play : goal.overflow_sub-play
overflow_sub-play c = search and_le_l

pub seek-requires-clause-at_node : goal.seek-requires-clause-at_node
seek-requires-clause-at_node c = search second_at

pub seek-requires-clause-handed : goal.seek-requires-clause-handed
seek-requires-clause-handed c = search second-handed

pub returns : goal.returns
returns c = search second-sought
