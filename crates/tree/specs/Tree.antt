-- The tree of a search under a test of dead nodes: the nodes in visiting order, the p-stable leaves among them. Assumes nothing.
use Rattle.std.specs.Prelude.{Bool, cond, not, ◌&&◌, List, [], ◌∷◌, ◌++◌, ℕ, zero, suc, ◌+◌, ◌*◌, ◌^◌, eqb, length}
use Rattle.program.specs.Clauses.{Clause}
use Rattle.semantics.specs.Interpretations.{is_stable}

-- "A node is a count k of undecided low bits and a word w whose lower k bits are zero."
pub record Node : Type 0 where
  pub undecided : ℕ
  pub word : ℕ

abbrev pub node : ℕ → ℕ → Node
node k w = record { undecided = k; word = w }

-- a test that says which nodes are dead, by count and word
abbrev pub Dead : Type 0
Dead = ℕ → ℕ → Bool

-- The nodes below (k, w) for a dead test D. "A live node with k > 0 has two children, bit k-1 out first, then in.
-- Nodes are visited a parent before its children, the first child's whole tree before the second."
unfoldable pub nodes : Dead → ℕ → ℕ → List Node
nodes D zero w = node 0 w ∷ []
nodes D (suc k) w = node (suc k) w ∷ cond (D (suc k) w) [] (nodes D k w ++ nodes D k (w + 2 ^ k))

-- "The root has k = 2n and w = 0."
abbrev pub tree : Dead → ℕ → List Node
tree D n = nodes D (2 * n) 0

-- "Let N be the number of all nodes."
abbrev pub node_count : Dead → ℕ → ℕ
node_count D n = length (tree D n)

-- "A live node with k = 0 is checked, and written to the list if p-stable."
unfoldable pub is_stable_leaf : Dead → List Clause → Node → Bool
unfolding is_stable
is_stable_leaf D P x = eqb x.undecided 0 && not (D x.undecided x.word) && is_stable P x.word

-- the words of those among xs that pass a test of nodes, in their order
unfoldable pub hits : (Node → Bool) → List Node → List ℕ
hits hit [] = []
hits hit (x ∷ xs) = let r = hits hit xs in cond (hit x) (x.word ∷ r) r

-- the words of the p-stable leaves among xs, in visiting order
abbrev pub stable_leaves : Dead → List Clause → List Node → List ℕ
stable_leaves D P xs = hits (is_stable_leaf D P) xs
