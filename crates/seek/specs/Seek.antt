-- The first p-stable leaf below a node, and from a word on: what the recursion promises. Assumes nothing.
use Rattle.std.specs.Prelude.{◌≡◌, Bool, true, false, cond, not, List, [], ◌∷◌, ℕ, ◌+◌, ◌-◌, ◌%◌, ◌^◌, ◌≤◌, ◌<◌, ltb}
use Rattle.sets.specs.Lists.{tabulate}
use Rattle.program.specs.Clauses.{Clause}
use Rattle.semantics.specs.Interpretations.{is_stable}
use Rattle.tree.specs.Tree.{Node, nodes, tree, is_stable_leaf}
use Rattle.tree.specs.NodeTest.{possible, dead}
use Rattle.columns.specs.Columns.{Columns}
use Rattle.columns.specs.Play.{InPlay}

-- what is answered where no node is a hit, and where the node limit ended before one
abbrev pub no_leaf : ℕ
no_leaf = 0xffff_ffff

abbrev pub spent : ℕ
spent = 0xffff_fffe

-- the nodes of xs whose word is at least x
unfoldable pub from_word : ℕ → List Node → List Node
from_word x [] = []
from_word x (y ∷ ys) = let r = from_word x ys in cond (ltb y.word x) r (y ∷ r)

-- ---- the first hit among xs, with v nodes visited before and the node limit A: its word, and the nodes visited up to it
unfoldable pub sought : (Node → Bool) → ℕ → List Node → ℕ → ℕ
sought hit A [] v = no_leaf
sought hit A (x ∷ xs) v = let r = sought hit A xs (v + 1) in cond (ltb v A) (cond (hit x) x.word r) spent

unfoldable pub after : (Node → Bool) → ℕ → List Node → ℕ → ℕ
after hit A [] v = v
after hit A (x ∷ xs) v = let r = after hit A xs (v + 1) in cond (ltb v A) (cond (hit x) (v + 1) r) v

-- the search among xs ends with r, where v nodes were visited before and v' are after
pub record Sought (hit : Node → Bool) (A : ℕ) (xs : List Node) (v r v' : ℕ) : Type 0 where
  pub word : r ≡ sought hit A xs v
  pub nodes : v' ≡ after hit A xs v

-- the same of the p-stable leaves of clauses P: below the node (k, w), and in the whole tree over n atoms from the word x on
abbrev pub SoughtBelow : List Clause → (k w A v r v' : ℕ) → Type 0
SoughtBelow P k w A v r v' = Sought (is_stable_leaf (dead P) P) A (nodes (dead P) k w) v r v'

abbrev pub SoughtFrom : List Clause → (n A x v r v' : ℕ) → Type 0
SoughtFrom P n A x v r v' = Sought (is_stable_leaf (dead P) P) A (from_word x (tree (dead P) n)) v r v'

-- the search goes on at the word x: it is the first of all, or the one before it is p-stable
pub record Resumes (P : List Clause) (x : ℕ) : Type 0 where
  pub found : (x ≡ 0 → ⊥) → is_stable P (x - 1) ≡ true

-- a node is counted, unless the node limit forbids it
pub record Ticked (A v : ℕ) (r : Bool) (v' : ℕ) : Type 0 where
  pub stopped : r ≡ not (ltb v A)
  pub nodes : v' ≡ cond (ltb v A) (v + 1) v

-- ---- the way from the root, whose count of undecided bits is top, down to a node
pub record OnPath (top k w : ℕ) : Type 0 where
  pub below : k ≤ top
  pub few : top ≤ 24
  pub within : w < 2 ^ top
  pub low : w % 2 ^ k ≡ 0

-- of any rows with the columns C: where `root` are those in play at the root, r are those in play at (k, w)
pub record PlaysAt (C : List ℕ) (root top k w r : ℕ) : Type 0 where
  pub plays : (at : ℕ → Clause) (n : ℕ) → Columns at n C → InPlay at n (possible top 0) 0 root → InPlay at n (possible k w) w r

-- the node (k + 1, w), whose second child is searched, is alive, and `root` are the rows in play at the root
pub record SecondOf (at : ℕ → Clause) (n : ℕ) (C : List ℕ) (root top k w : ℕ) : Type 0 where
  pub short : n ≤ 64
  pub columns : Columns at n C
  pub plays : InPlay at n (possible top 0) 0 root
  pub path : OnPath top (k + 1) w
  pub alive : dead (tabulate at n) (k + 1) w ≡ false
