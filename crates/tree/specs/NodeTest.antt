-- The test of a node: alive, violated or unsupported. Assumes nothing.
use Rattle.std.specs.Prelude.{◌≡◌, Bool, true, false, not, ◌&&◌, List, ℕ, ◌+◌, ◌-◌, ◌%◌, ◌^◌, ◌≤◌, T, eqb}
use Rattle.std.specs.Int.Bits.{bit_and}
use Rattle.sets.specs.Lists.{any_of, below}
use Rattle.sets.specs.Words.{bit, inside, apart}
use Rattle.program.specs.Clauses.{Clause}
use Rattle.tree.specs.declared.NodeStatus.{NodeStatus}
use Rattle.tree.specs.declared.NodeStatus.TheVariants.{Alive, Violated, Unsupported}
use Rattle.tree.specs.Tree.{Dead}

-- ---- violated: document 01's test of a dead node
-- every literal of x is decided where k low bits are not
abbrev pub decided : ℕ → ℕ → Bool
decided k x = eqb (x % 2 ^ k) 0

-- "every body literal is decided and in w, every not-literal decided and out of w, and every head literal decided and out of w"
unfoldable pub violated_by : ℕ → ℕ → Clause → Bool
violated_by k w c =
    (decided k c.body && inside c.body w)
    && (decided k c.naf && apart c.naf w)
    && (decided k c.head && apart c.head w)

-- "A node is dead when for some clause" that is so.
unfoldable pub violated : List Clause → Dead
unfolding any_of violated_by
violated P k w = any_of (violated_by k w) P

-- ---- unsupported: document 02, U3
-- The literals decided in are those of w, whose lower k bits are zero. Those that are not decided out are w's and the undecided ones:
abbrev pub possible : ℕ → ℕ → ℕ
possible k w = w + (2 ^ k - 1)

-- "Such a clause has the literal in its head and not in its body. None of its body literals is decided out.
-- None of its not-literals and no other head literal is decided in."
unfoldable pub could_support : ℕ → ℕ → ℕ → Clause → Bool
unfolding bit
could_support k w L c =
    (bit c.head L && not (bit c.body L))
    && inside c.body (possible k w)
    && (apart c.naf w && inside (bit_and c.head w) (2 ^ L))

-- The same, said of each literal: M is decided in at (k, w); M is decided out
abbrev pub DecidedIn : ℕ → ℕ → ℕ → Type 0
DecidedIn k w M = (k ≤ M) × T (bit w M)

abbrev pub DecidedOut : ℕ → ℕ → ℕ → Type 0
DecidedOut k w M = (k ≤ M) × (T (bit w M) → ⊥)

pub record CouldSupport (k w L : ℕ) (c : Clause) : Type 0 where
  pub in_head : T (bit c.head L)
  pub not_in_body : T (bit c.body L) → ⊥
  pub no_body_out : (M : ℕ) → T (bit c.body M) → DecidedOut k w M → ⊥
  pub no_naf_in : (M : ℕ) → T (bit c.naf M) → DecidedIn k w M → ⊥
  pub no_other_in : (M : ℕ) → T (bit c.head M) → DecidedIn k w M → M ≡ L

-- "some literal decided in has no clause that could still support it"; the literals of w are numbers below w
unfoldable pub unsupported : List Clause → Dead
unfolding any_of below bit could_support
unsupported P k w = any_of (λ L. bit w L && not (any_of (could_support k w L) P)) (below w)

-- ---- the test
-- "The node test now tells alive, violated or unsupported (violated where both hold)": by whether a node is violated, and whether it is unsupported
abbrev pub told : Bool → Bool → NodeStatus
told true b = Violated
told false true = Unsupported
told false false = Alive

unfoldable pub node_test : List Clause → ℕ → ℕ → NodeStatus
unfolding violated unsupported
node_test P k w = told (violated P k w) (unsupported P k w)

-- "A node shall be dead also if" it is unsupported: a node is dead where it is not alive.
abbrev pub is_dead : NodeStatus → Bool
is_dead Alive = false
is_dead Violated = true
is_dead Unsupported = true

unfoldable pub dead : List Clause → Dead
unfolding node_test
dead P k w = is_dead (node_test P k w)
