-- The test of a live leaf: its smaller subsets. Assumes nothing.
use Rattle.std.specs.Prelude.{◌≡◌, Bool, true, ◌&&◌, List, ℕ, ◌^◌, ◌≤◌, ◌<◌, T}
use Rattle.std.specs.Int.Bits.{bit_or}
use Rattle.sets.specs.Lists.{any_of, below}
use Rattle.sets.specs.Words.{bit, Inside, inside, apart}
use Rattle.program.specs.Clauses.{Clause}
use Rattle.semantics.specs.Interpretations.{reduct, is_model}
use Rattle.columns.specs.Play.{InPlay}

-- the body lies in w, the not-part misses `by` and the head misses `reach`
unfoldable pub rules_out : ℕ → ℕ → ℕ → Clause → Bool
rules_out by w reach c = inside c.body w && apart c.naf by && apart c.head reach

-- some proper subset of I that holds J and nothing outside J and R satisfies the reduct by I
unfoldable pub smaller_between : List Clause → ℕ → ℕ → ℕ → Bool
unfolding any_of below is_model reduct
smaller_between P I J R = any_of (λ K. inside J K && inside K (bit_or J R) && is_model (reduct P I) K) (below I)

-- what the search between J and its union with R, a subset of I, is handed of the first n rows: those in play at I,
-- and some, among them all that rule out every word between
pub record Handed (at : ℕ → Clause) (n I J R rows asked : ℕ) : Type 0 where
  pub few : n ≤ 64
  pub small : I < 2 ^ 24
  pub within : Inside (bit_or J R) I
  pub plays : InPlay at n I I rows
  pub asked_in : (i : ℕ) → T (bit asked i) → i < n
  pub asked_all : (i : ℕ) → i < n → rules_out I J (bit_or J R) (at i) ≡ true → T (bit asked i)
