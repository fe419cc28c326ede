-- `search_node::test` meets its contract: one law for each answer. Assumes nothing.
use Rattle.node.proofs.Asking.{test_violated, test_settled, test_unsupported, test_alive}
use Rattle.search_node.proofs.test.Goals as goal

pub returns-then-some_rules_out : goal.returns-then-some_rules_out
returns-then-some_rules_out c = search test_violated

pub returns-then-is_settled : goal.returns-then-is_settled
returns-then-is_settled c = search test_settled

pub returns-then-some_unsupported : goal.returns-then-some_unsupported
returns-then-some_unsupported c = search test_unsupported

pub returns : goal.returns
returns c = search test_alive
