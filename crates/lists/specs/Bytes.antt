-- Lists of bytes cut at a byte, put together again, compared, padded and written over. Assumes nothing.
use Rattle.std.specs.Prelude.{◌≡◌, Bool, true, false, cond, ◌&&◌, List, [], ◌∷◌, ◌++◌, ℕ, suc, ◌+◌, ◌-◌, ◌≤◌, max, eqb, leb, length, drop, replicate}
use Rattle.sets.specs.Lists.{any_of}

-- ---- cut at a byte
-- one element more in front of the first piece
unfoldable pub onto : ℕ → List (List ℕ) → List (List ℕ)
onto x [] = []
onto x (p ∷ ps) = (x ∷ p) ∷ ps

-- the pieces that c separates: "a b" at the space is "a", "b"; one more than there are spaces
unfoldable pub pieces : ℕ → List ℕ → List (List ℕ)
unfolding onto
pieces c [] = [] ∷ []
pieces c (x ∷ xs) = cond (eqb x c) ([] ∷ pieces c xs) (onto x (pieces c xs))

-- the pieces from at on; none past the end
unfoldable pub left : ℕ → List ℕ → ℕ → List (List ℕ)
unfolding pieces
left c xs at = cond (leb at (length xs)) (pieces c (drop at xs)) []

-- the pieces that c ends: what stands behind the last c is none
unfoldable pub ended : ℕ → List ℕ → List (List ℕ)
unfolding onto
ended c [] = []
ended c (x ∷ xs) = cond (eqb x c) ([] ∷ ended c xs) (onto x (ended c xs))

-- the place of the first c, or the length where there is none
unfoldable pub index : ℕ → List ℕ → ℕ
index c [] = 0
index c (x ∷ xs) = cond (eqb x c) 0 (suc (index c xs))

-- the place of the first c from at on, or the length where there is none
unfoldable pub end_of : ℕ → List ℕ → ℕ → ℕ
unfolding index
end_of c xs at = at + index c (drop at xs)

-- how often c stands in a list
unfoldable pub count : ℕ → List ℕ → ℕ
count c [] = 0
count c (x ∷ xs) = cond (eqb x c) (suc (count c xs)) (count c xs)

-- ---- put together
-- each piece with c in front
unfoldable pub led : ℕ → List (List ℕ) → List ℕ
led c [] = []
led c (p ∷ ps) = c ∷ (p ++ led c ps)

-- the pieces with c between them
unfoldable pub join : ℕ → List (List ℕ) → List ℕ
unfolding led
join c [] = []
join c (p ∷ ps) = p ++ led c ps

-- each piece with c behind it
unfoldable pub close : ℕ → List (List ℕ) → List ℕ
close c [] = []
close c (p ∷ ps) = p ++ c ∷ close c ps

-- ---- compared
-- two lists of bytes are the same
unfoldable pub same : List ℕ → List ℕ → Bool
same [] [] = true
same [] (y ∷ ys) = false
same (x ∷ xs) [] = false
same (x ∷ xs) (y ∷ ys) = eqb x y && same xs ys

-- no two of them are the same
unfoldable pub distinct : List (List ℕ) → Bool
unfolding same
distinct [] = true
distinct (p ∷ ps) = cond (any_of (same p) ps) false (distinct ps)

-- ---- padded and written over
-- zeros behind xs, n in all
unfoldable pub padded : ℕ → List ℕ → List ℕ
padded n xs = xs ++ replicate (n - length xs) 0

-- the bytes ys over the front of xs
abbrev pub over : List ℕ → List ℕ → List ℕ
over ys xs = ys ++ drop (length ys) xs

-- ---- what the routines of this crate answer
-- the piece of xs from at on ends at e
pub record EndsAt (xs : List ℕ) (c at e : ℕ) : Type 0 where
  pub is : e ≡ end_of c xs at
  pub from : at ≤ e
  pub to : e ≤ max at (length xs)

-- c stands r times in xs
pub record CountOf (c : ℕ) (xs : List ℕ) (r : ℕ) : Type 0 where
  pub is : r ≡ count c xs
  pub small : r ≤ length xs

-- 1 where the test holds, 0 where not
abbrev pub one_if : Bool → ℕ
one_if true = 1
one_if false = 0

-- the text t was written over the front of xs, which gave ys; r is its length
pub record Wrote (t xs : List ℕ) (r : ℕ) (ys : List ℕ) : Type 0 where
  pub size : r ≡ length t
  pub whole : ys ≡ over t xs
