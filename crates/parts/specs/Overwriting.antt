-- Words written over the start of a list. Assumes nothing.
use Rattle.std.specs.Prelude.{List, ◌++◌, ◌≡◌, ℕ, length, take, drop}

-- the words l in the first places of xs, as many as fit: "Places behind those written keep their content"
unfoldable pub overwrite : List ℕ → List ℕ → List ℕ
overwrite xs l = take (length xs) l ++ drop (length l) xs

-- the number of the words l, and the list at exit
pub record Overwrites (l xs out : List ℕ) (r : ℕ) : Type 0 where
  pub count : r ≡ length l
  pub exit : out ≡ overwrite xs l
