-- Document 02, U9: "The node test then visits only the clauses whose bits are set." Assumes nothing.
use Rattle.std.specs.Prelude.{Bool, not, List, ℕ, ◌^◌}
use Rattle.std.specs.Int.Bits.{bit_and}
use Rattle.sets.specs.Lists.{any_of}
use Rattle.literals.specs.Literals.{members}
use Rattle.program.specs.Clauses.{Clause}
use Rattle.tree.specs.declared.NodeStatus.{NodeStatus}
use Rattle.tree.specs.NodeTest.{violated_by, told}
use Rattle.columns.specs.Columns.{head_column}
use Rattle.node.specs.Node.{supports_alone}

-- some row of a set is violated at the node (k, w)
abbrev pub violated_in : (ℕ → Clause) → ℕ → ℕ → ℕ → Bool
violated_in at rows k w = any_of (λ i. violated_by k w (at i)) (members rows)

-- some row of a set supports the literal L of w
abbrev pub supported_in : (ℕ → Clause) → ℕ → ℕ → ℕ → Bool
supported_in at rows w L = any_of (λ i. supports_alone w (2 ^ L) (at i)) (members rows)

-- the test of the node by the rows in play: for a violation all of them are visited, for the support of a literal those of its head column
-- (`node/src` `test` visits fewer, by what is known of the parent)
unfoldable pub column_test : (ℕ → Clause) → List ℕ → ℕ → ℕ → ℕ → NodeStatus
column_test at C play k w = told (violated_in at play k w) (any_of (λ L. not (supported_in at (bit_and (head_column C L) play) w L)) (members w))
