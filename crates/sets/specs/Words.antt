-- Words as finite sets of numbers. Assumes nothing.
use Rattle.std.specs.Prelude.{◌≡◌, Bool, not, List, [], ◌∷◌, ℕ, zero, suc, ◌+◌, ◌-◌, ◌/◌, ◌%◌, ◌^◌, ◌≤◌, ◌<◌, T, eqb}
use Rattle.std.specs.Int.Bits.{bit_and, bit_or}

-- a set, by its membership test
abbrev pub Set : Type 0 → Type 0
Set A = A → Bool

infix 50 ◌⊑◌
abbrev pub ◌⊑◌ : {A : Type 0} → Set A → Set A → Type 0
◌⊑◌ {A} I J = (x : A) → T (I x) → T (J x)

-- digit i of a number in base two
unfoldable pub digit : ℕ → ℕ → ℕ
digit zero w = w % 2
digit (suc i) w = digit i (w / 2)

-- the set that a word stands for: i is in it where digit i is one
unfoldable pub bit : ℕ → Set ℕ
unfolding digit
bit w i = eqb (digit i w) 1

-- w with the member h; the word of a list of numbers
abbrev pub put : ℕ → ℕ → ℕ
put h w = bit_or w (2 ^ h)

unfoldable pub mask : List ℕ → ℕ
mask [] = 0
mask (x ∷ l) = bit_or (2 ^ x) (mask l)

-- every bit of a is a bit of b; no bit of a is one of b
abbrev pub Inside : ℕ → ℕ → Type 0
Inside a b = bit_and a b ≡ a

abbrev pub Apart : ℕ → ℕ → Type 0
Apart a b = bit_and a b ≡ 0

-- the same as tests; a meets b where they share a bit
abbrev pub inside : ℕ → ℕ → Bool
inside a b = eqb (bit_and a b) a

abbrev pub apart : ℕ → ℕ → Bool
apart a b = eqb (bit_and a b) 0

abbrev pub meets : ℕ → ℕ → Bool
meets a b = not (apart a b)

-- "next subset is (J wrapping minus I) masked by I", among words of k bits
unfoldable pub next_subset : ℕ → ℕ → ℕ → ℕ
next_subset k I j = bit_and ((j + 2 ^ k - I) % 2 ^ k) I

-- m is the least word inside I above j
pub record Next (I j m : ℕ) : Type 0 where
  pub inside : Inside m I
  pub above : j < m
  pub no_between : (i : ℕ) → j < i → i < m → Inside i I → ⊥

-- t is the highest bit of x
pub record Highest (x t : ℕ) : Type 0 where
  pub place : ℕ
  pub power : t ≡ 2 ^ place
  pub within : t ≤ x
  pub most : x < t + t
