-- A line item by item, and what a call that writes lines is handed. Assumes nothing.
use Rattle.std.specs.Prelude.{◌≡◌, cond, List, [], ◌∷◌, ◌++◌, ℕ, ◌+◌, ◌≤◌, ltb, length, get_or}
use Rattle.decimal.specs.Decimal.{decimal}

-- what stands behind the item before i of n: a space, or the line's end
unfoldable pub separator : ℕ → ℕ → ℕ
separator i n = cond (ltb i n) 32 10

-- the item i of the n items of a line, and what stands behind it
abbrev pub item : (ℕ → List ℕ) → ℕ → ℕ → List ℕ
item f n i = f i ++ separator (i + 1) n ∷ []

-- the text of the number in the place i
abbrev pub number_at : List ℕ → ℕ → List ℕ
number_at vs i = decimal (get_or vs i 0)

-- n items, 1 to most of them, and room in xs for the text t that they make
pub record Room (n most : ℕ) (t xs : List ℕ) : Type 0 where
  pub some : 1 ≤ n
  pub few : n ≤ most
  pub room : length t ≤ length xs

-- r is the length of the text t, and no more than most
pub record Spans (t : List ℕ) (most r : ℕ) : Type 0 where
  pub is : r ≡ length t
  pub small : r ≤ most
