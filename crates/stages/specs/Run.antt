-- The run of the stages: where it ends, and whether the working room holds them. Assumes nothing.
use Rattle.std.specs.Prelude.{ℕ, suc, ◌+◌, ◌-◌, ◌≤◌, ◌<◌, ltb, length, take, Bool, false, cond, List, ◌≡◌}
use Rattle.lists.specs.Bytes.{same}
use Rattle.sets.specs.Lists.{any_of, below}
use Rattle.sets.specs.Least.{least}
use Rattle.operator.specs.Operator.{WordRule, stage}

-- the latest stage at which a run rests: "a stage equal to its successor is reached at stage W + 1 at the latest", and W is at most 64
abbrev pub latest_rest : ℕ
latest_rest = 65

-- the first stage that its successor equals
unfoldable pub resting : List WordRule → ℕ
resting Q = least (λ k. same (stage Q k) (stage Q (suc k))) latest_rest

-- "The run ends at the first stage equal to the one before".
unfoldable pub ending : List WordRule → ℕ
ending Q = suc (resting Q)

-- stage i equals the one before; stage 0 has none before it
abbrev pub EqualsBefore : List WordRule → ℕ → Type 0
EqualsBefore Q i = (1 ≤ i) × (stage Q i ≡ stage Q (i - 1))

-- stage e ends the run over W members: "The run ends at the first stage equal to the one before; a stage equal to its successor is reached at stage W + 1 at the latest."
pub record EndsRun (Q : List WordRule) (W e : ℕ) : Type 0 where
  pub ends : EqualsBefore Q e
  pub first : (i : ℕ) → i < e → EqualsBefore Q i → ⊥
  pub latest : e - 1 ≤ W + 1

-- the stage that ends the run
unfoldable pub final_stage : List WordRule → List ℕ
final_stage Q = stage Q (ending Q)

-- Refusal 12: "Some stage, up to the one that ends the run, has more members than the working room."
unfoldable pub crowded : List WordRule → ℕ → Bool
crowded Q room = any_of (λ k. ltb room (length (stage Q k))) (below (suc (ending Q)))

-- ---- a run that has come to stage k

pub record Reached (Q : List WordRule) (room k : ℕ) : Type 0 where
  pub most : k ≤ latest_rest
  pub early : (i : ℕ) → i < k → same (stage Q i) (stage Q (suc i)) ≡ false
  pub roomy : (i : ℕ) → i ≤ k → length (stage Q i) ≤ room

-- ---- the answer of a run

-- r and the two working slices at exit: the number of members of the stage that ends the run, which stand in the first places of both, or one more than the room.
-- Both keep their length. Free are the words behind the members, and all words of both where a stage was too large: they may be any.
pub record Iterated (Q : List WordRule) (room r : ℕ) (first second : List ℕ) : Type 0 where
  pub count : r ≡ cond (crowded Q room) (room + 1) (length (final_stage Q))
  pub in_first : crowded Q room ≡ false → take r first ≡ final_stage Q
  pub in_second : crowded Q room ≡ false → take r second ≡ final_stage Q
  pub fits : crowded Q room ≡ false → r ≤ room
  pub first_length : length first ≡ room
  pub second_length : length second ≡ room

-- the run has come to stage k, which stands in the first places of the first slice
pub record Iterating (Q : List WordRule) (first : List ℕ) (members : ℕ) (second : List ℕ) (k : ℕ) : Type 0 where
  pub inside : members ≤ length first
  pub long : length second ≡ length first
  pub is : take members first ≡ stage Q k
  pub reached : Reached Q (length first) k
