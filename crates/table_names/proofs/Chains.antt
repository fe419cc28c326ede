-- What the library answers: a test of all members of a list, and the pieces of a split. Assumes nothing.
use mathlib.Core.Path.{◌≡◌, refl, ap, ◌∙◌}
use mathlib.Core.Bool.{Bool, cond, ◌&&◌}
use mathlib.Core.List.{List, [], ◌∷◌}
use Prim.Native.Nat.{ℕ}
use lib.Dec.{eqb}
use Rattle.std.specs.List.{list_all, slice_split, onto_first}
use Rattle.std.proofs.lemmas.List.Recursion.{same_from_clauses}
use Rattle.sets.specs.Lists.{every}
use Rattle.lists.specs.Bytes.{onto, pieces}
use Rattle.lists.proofs.Pieces.{pieces_first}

pub every_all : {A : Type 0} (p : A → Bool) (xs : List A) (r : Bool) → r ≡ list_all p xs → r ≡ every p xs
unfolding every
every_all p xs r e = e ∙ same_from_clauses (list_all p) (every p) (λ x b. p x && b) refl (λ _ _. refl) (λ _ _. refl) xs

first_onto : (x : ℕ) (p : List ℕ) (ps qs : List (List ℕ)) → qs ≡ p ∷ ps → onto_first x qs ≡ onto x qs
unfolding onto
first_onto x p ps [] e = absurd (cc)
first_onto x p ps (q ∷ qs) e = refl

pub split_pieces : (c : ℕ) (xs : List ℕ) → slice_split (λ b. eqb b c) xs ≡ pieces c xs
unfolding pieces
split_pieces c [] = refl
split_pieces c (x ∷ xs) =
    ap (λ (ps : List (List ℕ)). cond (eqb x c) ([] ∷ ps) (onto_first x ps)) (split_pieces c xs)
    ∙ ap (λ (ps : List (List ℕ)). cond (eqb x c) ([] ∷ pieces c xs) ps) (first_onto x _ _ (pieces c xs) (pieces_first c xs))
