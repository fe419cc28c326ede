-- The rows in play at a node. Assumes nothing.
use Rattle.std.specs.Prelude.{◌≡◌, Bool, ◌&&◌, ℕ, ltb}
use Rattle.sets.specs.Words.{bit, inside, apart}
use Rattle.program.specs.Clauses.{Clause}

-- A clause is in play where none of its body literals is decided out and none of its not-literals decided in.
-- w has the literals that are decided in, reach those that are not decided out.
unfoldable pub in_play : ℕ → ℕ → Clause → Bool
in_play reach w c = inside c.body reach && apart c.naf w

-- s is the set of those among the first n rows that are in play
pub record InPlay (at : ℕ → Clause) (n reach w s : ℕ) : Type 0 where
  pub exactly : (k : ℕ) → bit s k ≡ ltb k n && in_play reach w (at k)
