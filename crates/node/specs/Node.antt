-- What the test of a node is handed. Assumes nothing.
use Rattle.std.specs.Prelude.{◌≡◌, Bool, true, false, ◌&&◌, ℕ, ◌+◌, ◌%◌, ◌^◌, ◌≤◌, ◌<◌, T, eqb}
use Rattle.std.specs.Int.Bits.{bit_and}
use Rattle.sets.specs.Lists.{tabulate}
use Rattle.sets.specs.Words.{bit, Inside, apart}
use Rattle.program.specs.Clauses.{Clause}
use Rattle.tree.specs.NodeTest.{possible, violated_by, unsupported}
use Rattle.columns.specs.Play.{InPlay}

-- (k, w) is a node of a tree over at most twelve atoms
pub record Placed (k w : ℕ) : Type 0 where
  pub few : k ≤ 24
  pub low : w % 2 ^ k ≡ 0
  pub fits : w + 2 ^ k ≤ 2 ^ 24

-- what a visit of the node (k, w) is handed: at most 64 clauses, and the word with every undecided bit
pub record AtNode (count k w reach : ℕ) : Type 0 where
  pub short : count ≤ 64
  pub placed : Placed k w
  pub reaches : reach ≡ possible k w

-- and of the first n rows: those in play, and with them all that could be violated; where the literal k was decided out
-- and no row that mentions it has left the play, every literal of w keeps its support
pub record Handed (at : ℕ → Clause) (n k w play mentioned : ℕ) : Type 0 where
  pub plays : InPlay at n (possible k w) w play
  pub asked_all : (i : ℕ) → i < n → violated_by k w (at i) ≡ true → T (bit mentioned i)
  pub supported_still : bit w k ≡ false → Inside mentioned play → unsupported (tabulate at n) k w ≡ false

-- of the head of c just the literal of the word b is in w, and the body has it not
abbrev pub supports_alone : ℕ → ℕ → Clause → Bool
supports_alone w b c = eqb (bit_and c.head w) b && apart c.body b
