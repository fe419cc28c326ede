use lib.Bits.{and_le_l}
use borrow.Author.Rules.{rules}
use Rattle.seek.proofs.Handing.{bit_fits, word_fits, at_first, at_second, rows_first, rows-second, leaf_small, leaf_plays}
use Rattle.seek.proofs.Visits.{leaf_live, seek_spent, seek_dead, seek_unstable, seek_leaf, seek_first, seek_second_lem}
use Rattle.search_below.proofs.+seek.Goals as goal

pub returns-then-tick : goal.returns-then-tick
returns-then-tick t c = search seek_spent

pub returns-then-node_dead : goal.returns-then-node_dead
returns-then-node_dead t c = search seek_dead

pub leaf_stable-requires-clause-count_bound : goal.leaf_stable-requires-clause-count_bound
leaf_stable-requires-clause-count_bound t c = (search rules, search leaf_small)

pub leaf_stable-requires-clause-in_play : goal.leaf_stable-requires-clause-in_play
leaf_stable-requires-clause-in_play t c = search leaf_plays

pub leaf_stable-requires-clause-w_value : goal.leaf_stable-requires-clause-w_value
leaf_stable-requires-clause-w_value t c = search leaf_live

pub returns-then-leaf_stable : goal.returns-then-leaf_stable
returns-then-leaf_stable t c = search seek_leaf

pub returns-else-leaf_stable : goal.returns-else-leaf_stable
returns-else-leaf_stable t c = search seek_unstable

pub overflow_sub-reach : goal.overflow_sub-reach
overflow_sub-reach t c = search bit_fits

pub overflow_sub-play : goal.overflow_sub-play
overflow_sub-play t c = search and_le_l

pub seek-first-requires : goal.seek-first-requires
seek-first-requires t c = (search rules, (search at_first, (search rules, search rows_first)))

pub returns-then-first : goal.returns-then-first
returns-then-first t c = search seek_first

pub overflow_add-w : goal.overflow_add-w
overflow_add-w t c = search word_fits

pub overflow_sub-play-2 : goal.overflow_sub-play-2
overflow_sub-play-2 t c = search and_le_l

pub seek-requires : goal.seek-requires
seek-requires t c = (search rules, (search at_second, (search rules, search rows-second)))

pub returns : goal.returns
returns t c = search seek_second_lem
