-- Lists that are mapped: back again, tested, and with no two equal. Assumes nothing.
use mathlib.Core.Path.{◌≡◌, refl, sym, ap, ◌∙◌}
use mathlib.Core.Bool.{Bool, true, false, cond}
use mathlib.Core.Logic.{⊎_elim}
use mathlib.Core.List.{List, [], ◌∷◌, map}
use Prim.Native.Nat.{ℕ}
use Rattle.sets.specs.Lists.{every, any_of}
use Rattle.sets.proofs.Tests.{dec, clash, both_true, both_false}
use Rattle.lists.specs.Bytes.{same, distinct}
use Rattle.lists.proofs.Loops.{same_true, same_self}

module _ {A B : Type 0} (f : A → B) where
  pub every_of_map : (q : B → Bool) (xs : List A) → every q (map f xs) ≡ every (λ x. q (f x)) xs
  unfolding every
  every_of_map q [] = refl
  every_of_map q (x ∷ xs) = rw (every_of_map q xs)

  -- what holds of every f x
  pub every_all : (q : B → Bool) → ((x : A) → q (f x) ≡ true) → (xs : List A) → every q (map f xs) ≡ true
  unfolding every
  every_all q h [] = refl
  every_all q h (x ∷ xs) = rw (h x, every_all q h xs)

  module _ (p : A → Bool) where
    pub every_map : (q : B → Bool) → ((x : A) → p x ≡ true → q (f x) ≡ true) → (xs : List A) → every p xs ≡ true → every q (map f xs) ≡ true
    unfolding every
    every_map q h [] e = refl
    every_map q h (x ∷ xs) e = let a = both_true (p x) (every p xs) e in rw (h x a.0, every_map q h xs a.1)

    pub map_back : (g : B → A) → ((x : A) → p x ≡ true → g (f x) ≡ x) → (xs : List A) → every p xs ≡ true → map g (map f xs) ≡ xs
    unfolding every
    map_back g h [] e = refl
    map_back g h (x ∷ xs) e = let a = both_true (p x) (every p xs) e in rw (h x a.0, map_back g h xs a.1)

    -- what fails of every f x
    pub none-map : (q : B → Bool) → ((x : A) → p x ≡ true → q (f x) ≡ false) → (xs : List A) → every p xs ≡ true → any_of q (map f xs) ≡ false
    unfolding every any_of
    none-map q h [] e = refl
    none-map q h (x ∷ xs) e = let a = both_true (p x) (every p xs) e in rw (h x a.0, none-map q h xs a.1)

-- f is one to one on what passes p
module _ (f : List ℕ → List ℕ) (p : List ℕ → Bool) (one : (x y : List ℕ) → p x ≡ true → p y ≡ true → f x ≡ f y → x ≡ y) where
  differ : (x y : List ℕ) → p x ≡ true → p y ≡ true → same x y ≡ false → same (f x) (f y) ≡ false
  differ x y a b h = ⊎_elim
      (λ t. clash (same x y) (ap (same x) (sym (one x y a b (same_true (f x) (f y) t))) ∙ same_self x) h)
      (λ t. t) (dec (same (f x) (f y)))

  none-again : (x : List ℕ) (ys : List (List ℕ)) → p x ≡ true → every p ys ≡ true → any_of (same x) ys ≡ false → any_of (same (f x)) (map f ys) ≡ false
  unfolding every any_of
  none-again x [] a e h = refl
  none-again x (y ∷ ys) a e h =
      let b = both_true (p y) (every p ys) e in
      let s = both_false (same x y) (any_of (same x) ys) h in
      rw (differ x y a b.0 s.0, none-again x ys a b.1 s.1)

  cond_true : (a b : Bool) → cond a false b ≡ true → (a ≡ false) × (b ≡ true)
  cond_true true b h = clash false h refl
  cond_true false b h = (refl, h)

  pub distinct-map : (xs : List (List ℕ)) → every p xs ≡ true → distinct xs ≡ true → distinct (map f xs) ≡ true
  unfolding every distinct
  distinct-map [] e h = refl
  distinct-map (x ∷ xs) e h =
      let a = both_true (p x) (every p xs) e in
      let s = cond_true (any_of (same x) xs) (distinct xs) h in
      rw (none-again x xs a.0 a.1 s.0, distinct-map xs a.1 s.1)
