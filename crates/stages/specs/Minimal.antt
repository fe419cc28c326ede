-- What is taken of the stage that ends the run. Assumes nothing.
use Rattle.std.specs.Prelude.{ℕ, ◌+◌, ◌≤◌, false, cond, List, ◌≡◌, length, take}
use Rattle.sets.specs.Lists.{sift}
use Rattle.operator.specs.Operator.{WordRule}
use Rattle.minimal.specs.Minimal.{satisfies, minimals}
use Rattle.stages.specs.Run.{final_stage, crowded}

-- "take the members that satisfy all transformed clauses, of these the minimal ones"
unfoldable pub minimal_models : List WordRule → List ℕ
minimal_models Q = minimals (sift (satisfies Q) (final_stage Q))

-- r and the two working slices at exit: the number of minimal models, which stand, rising, at the start of the first, or one more than the room where some stage has more members than that.
-- Both keep their length. Free are the words behind the minimal models in the first, all words of the second, and all words of both where a stage was too large: they may be any.
pub record Minimals (Q : List WordRule) (room r : ℕ) (first second : List ℕ) : Type 0 where
  pub count : r ≡ cond (crowded Q room) (room + 1) (length (minimal_models Q))
  pub words : crowded Q room ≡ false → take r first ≡ minimal_models Q
  pub fits : crowded Q room ≡ false → r ≤ room
  pub first_length : length first ≡ room
  pub second_length : length second ≡ room
