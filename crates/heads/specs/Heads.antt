-- Some heads, and the sets made of one literal of each. Assumes nothing.
use Rattle.std.specs.Prelude.{◌≡◌, Bool, true, ◌&&◌, ℕ, ◌-◌, ◌<◌, get_or}
use mathlib.Core.List.{List, [], ◌∷◌, flat_map}
use Rattle.std.specs.Int.Bits.{bit_and, bit_or}
use Rattle.sets.specs.Words.{bit, inside, put}
use Rattle.literals.specs.Literals.{literals}

-- the head at a place of an array of words
abbrev pub head_at : List ℕ → ℕ → ℕ
head_at ws i = get_or ws i 0

-- every set made of j and one literal, chosen every way, of each head
unfoldable pub picks : List ℕ → ℕ → List ℕ
picks [] j = j ∷ []
picks (h ∷ H) j = flat_map (λ t. picks H (put t j)) (literals h)

-- the literals of the heads
unfoldable pub offered_by : List ℕ → ℕ
offered_by [] = 0
offered_by (h ∷ H) = bit_or h (offered_by H)

-- a less what b has of it
unfoldable pub without : ℕ → ℕ → ℕ
without a b = a - bit_and a b

-- x holds w and, beyond it, only literals of `free`
unfoldable pub between : ℕ → ℕ → ℕ → Bool
between free w x = inside w x && inside x (bit_or w free)

-- t is a literal of s
pub record Literal (s t : ℕ) : Type 0 where
  pub small : t < 64
  pub member : bit s t ≡ true
