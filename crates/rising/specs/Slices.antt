-- A set in the first places of a list of fixed length. Assumes nothing.
use Rattle.std.specs.Prelude.{ℕ, suc, ◌+◌, min, leb, ltb, eqb, length, get_or, take, drop, Bool, false, cond, List, ◌++◌, ◌≡◌}

-- how many members of m stand in a room: one more than the room where they do not fit
unfoldable pub size : ℕ → List ℕ → ℕ
size room m = min (length m) (room + 1)

-- m in the first places of xs where it fits; every later place as it was
unfoldable pub overlay : List ℕ → List ℕ → List ℕ
overlay xs m = cond (leb (length m) (length xs)) (m ++ drop (length m) xs) xs

-- the members from `at` to `members` moved up by one place, over the place `members`
unfoldable pub opened : List ℕ → ℕ → ℕ → List ℕ
opened xs at members = take (suc at) xs ++ (drop at (take members xs) ++ drop (suc members) xs)

-- x stands at `at`, among the first `members` places
unfoldable pub stands_at : List ℕ → ℕ → ℕ → ℕ → Bool
stands_at xs members at x = cond (ltb at members) (eqb (get_or xs at 0) x) false

-- r and the list at exit, where m was to be put into the first places of xs
pub record Inserted (xs out m : List ℕ) (r : ℕ) : Type 0 where
  pub count : r ≡ size (length xs) m
  pub exit : out ≡ overlay xs m

-- the r members of m stand in the first places
pub record Prefix (m out : List ℕ) (r : ℕ) : Type 0 where
  pub count : r ≡ length m
  pub words : take r out ≡ m
