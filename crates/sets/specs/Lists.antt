-- Lists: their members, tests on their members, numbers below a bound, rising lists. Assumes nothing.
use Rattle.std.specs.Prelude.{◌≡◌, ◌⊎◌, Bool, true, false, cond, ◌&&◌, ◌||◌, List, [], ◌∷◌, ℕ, zero, suc, ◌-◌, ◌<◌, length, take}

module _ {A : Type 0} where
  infix 50 ◌∈◌
  -- x is a member of the list
  abbrev pub ◌∈◌ : A → List A → Type 0
  x ∈ [] = ⊥
  x ∈ (y ∷ l) = (x ≡ y) ⊎ (x ∈ l)

  -- a fact of every member; a member of which it is a fact
  abbrev pub Each : (A → Type 0) → List A → Type 0
  Each P l = (x : A) → x ∈ l → P x

  abbrev pub Some : (A → Type 0) → List A → Type 0
  Some P l = (x : A) × (x ∈ l) × P x

  -- every member passes the test; some member does
  unfoldable pub every : (A → Bool) → List A → Bool
  every p [] = true
  every p (x ∷ l) = let r = every p l in p x && r

  unfoldable pub any_of : (A → Bool) → List A → Bool
  any_of p [] = false
  any_of p (x ∷ l) = let r = any_of p l in p x || r

  -- the members that pass the test, in their order
  unfoldable pub sift : (A → Bool) → List A → List A
  sift p [] = []
  sift p (x ∷ l) = let r = sift p l in cond (p x) (x ∷ r) r

  -- f i, f (i + 1), .., k of them
  unfoldable pub up_from : (ℕ → A) → ℕ → ℕ → List A
  up_from f zero i = []
  up_from f (suc k) i = f i ∷ up_from f k (suc i)

  -- f i, .., f (n - 1)
  unfoldable pub onward : (ℕ → A) → ℕ → ℕ → List A
  unfolding up_from
  onward f n i = up_from f (n - i) i

  -- f 0, .., f (n - 1)
  unfoldable pub tabulate : (ℕ → A) → ℕ → List A
  unfolding up_from
  tabulate f n = up_from f n 0

-- the numbers below n, rising
unfoldable pub below : ℕ → List ℕ
unfolding tabulate
below n = tabulate (λ i. i) n

-- each member is below all that come after it: rising, and each once
unfoldable pub Rising : List ℕ → Type 0
Rising [] = Unit {0}
Rising (x ∷ l) = Each (λ y. x < y) l × Rising l

-- the list a is the first part of the list b
unfoldable pub Begins : List ℕ → List ℕ → Type 0
Begins a b = take (length a) b ≡ a
