-- `search_node::is_settled` meets its contract: the lowest bit behind a shift is the bit. Assumes nothing.
use borrow.Author.Rules.{rules}
use Rattle.sets.proofs.Digits.{bit_clear, bit_set}
use Rattle.search_node.proofs.is_settled.Goals as goal

pub returns-then-w-k-eq0 : goal.returns-then-w-k-eq0
returns-then-w-k-eq0 c = search (bit_clear, rules)

pub returns-else-w-k-eq0 : goal.returns-else-w-k-eq0
returns-else-w-k-eq0 c = search (bit_set, rules)
