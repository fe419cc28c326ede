-- A set that grows in the first places of a slice. Assumes nothing.
use Rattle.std.specs.Prelude.{ℕ, ◌+◌, ◌-◌, ◌%◌, ◌≤◌, ◌<◌, ltb, length, get_or, take, drop, Bool, true, false, cond, List, ◌≡◌}
use Rattle.sets.specs.Lists.{Rising, ◌∈◌}
use Rattle.rising.specs.RisingSets.{insert_into, gather}
use Rattle.rising.specs.Slices.{size}

-- r and the slice at exit, where the set `all` was to be formed in so many places: the number of its members, which stand in the first places, or one more than there are places.
-- The slice keeps its length. Free are the words behind the members, and all words where there was no room: they may be any.
pub record Grown (room : ℕ) (all out : List ℕ) (r : ℕ) : Type 0 where
  pub count : r ≡ size room all
  pub words : length all ≤ room → take r out ≡ all
  pub long : length out ≡ room

-- ---- a set in two runs

-- the set of the first n words
unfoldable pub held : ℕ → List ℕ → List ℕ
held n xs = gather (take n xs)

-- the first m words rise, the k words behind them rise, and none stands in both
pub record Split (m k : ℕ) (xs : List ℕ) : Type 0 where
  pub first : Rising (take m xs)
  pub last : Rising (take k (drop m xs))
  pub apart : (x : ℕ) → x ∈ take m xs → x ∈ take k (drop m xs) → ⊥

-- how many of n members stand in the first run: all but the last n mod 256
unfoldable pub first_run : ℕ → ℕ
first_run n = n - n % 256

-- the first n words are a set in two runs
pub record Runs (n : ℕ) (xs : List ℕ) : Type 0 where
  pub split : Split (first_run n) (n - first_run n) xs

-- r and the slice at exit, where the set `all` was to be formed in so many places, in two runs: the number of its members, or one more than there are places.
-- The slice keeps its length. Free are the words behind the members, and all words where there was no room: they may be any.
pub record Gathered (room : ℕ) (all out : List ℕ) (r : ℕ) : Type 0 where
  pub count : r ≡ size room all
  pub words : length all ≤ room → held r out ≡ all
  pub runs : length all ≤ room → Runs r out
  pub long : length out ≡ room

-- r is the place of the least of the n members that is not below x, or n where there is none
pub record From (xs : List ℕ) (n x r : ℕ) : Type 0 where
  pub within : r ≤ n
  pub none : r ≡ n → (y : ℕ) → y ∈ held n xs → y < x
  pub member : r < n → get_or xs r 0 ∈ held n xs
  pub above : r < n → x ≤ get_or xs r 0
  pub lowest : r < n → (y : ℕ) → y ∈ held n xs → x ≤ y → get_or xs r 0 ≤ y

-- the members stand rising in the first places; the slice keeps its length, and free are the words behind them
pub record Settled (xs : List ℕ) (n : ℕ) (out : List ℕ) : Type 0 where
  pub words : take n out ≡ held n xs
  pub long : length out ≡ length xs

-- the answer whether x is a member
pub record Holds (l : List ℕ) (x : ℕ) (r : Bool) : Type 0 where
  pub is : r ≡ true → x ∈ l
  pub not : r ≡ false → x ∈ l → ⊥

-- the last of the first p words is above x
unfoldable pub above_at : List ℕ → ℕ → ℕ → Bool
above_at xs p x = cond (ltb 0 p) (ltb x (get_or xs (p - 1) 0)) false

-- t and the slice at exit, where x was to be put into the k words from m on: their number, or one more than there are places from m on
pub record Behind (xs : List ℕ) (m k x : ℕ) (out : List ℕ) (t : ℕ) : Type 0 where
  pub count : t ≡ size (length xs - m) (insert_into x (take k (drop m xs)))
  pub long : length out ≡ length xs
  pub most : t ≤ k + 1
  pub room : m + t ≤ length xs + 1
  pub first : take m out ≡ take m xs
  pub last : m + t ≤ length xs → take t (drop m out) ≡ insert_into x (take k (drop m xs))
