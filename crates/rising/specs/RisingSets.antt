-- Finite sets of numbers as strictly rising lists: insertion, and a list of numbers put in one after the other. Assumes nothing.
use Rattle.std.specs.Prelude.{ℕ, suc, ltb, eqb, cond, List, [], ◌∷◌}

-- x put in where it belongs, once
unfoldable pub insert_into : ℕ → List ℕ → List ℕ
insert_into x [] = x ∷ []
insert_into x (y ∷ l) = cond (ltb x y) (x ∷ y ∷ l) (cond (eqb x y) (y ∷ l) (y ∷ insert_into x l))

-- all of xs put into l, one after the other
unfoldable pub add_all : List ℕ → List ℕ → List ℕ
add_all [] l = l
add_all (x ∷ xs) l = add_all xs (insert_into x l)

-- the set of the numbers in xs
abbrev pub gather : List ℕ → List ℕ
gather xs = add_all xs []

-- how many members of a rising list come before x
unfoldable pub rank : ℕ → List ℕ → ℕ
rank x [] = 0
rank x (y ∷ l) = cond (ltb y x) (suc (rank x l)) 0
