-- The members of a word, lowest first, and a word without its lowest. Assumes nothing.
use Rattle.std.specs.Prelude.{◌≡◌, ℕ, zero, suc, ◌+◌, ◌-◌, ◌/◌, ◌%◌, ◌^◌, ◌<◌, List, [], ◌∷◌}
use Rattle.std.specs.Int.Bits.{bit_and}
use Rattle.std.specs.Int.Count.{count_trailing_zeros}

-- what stands at the digit d: the place p where it is set
abbrev pub here : ℕ → ℕ → List ℕ → List ℕ
here zero p l = l
here (suc d) p l = p ∷ l

-- the places, from p on, of the set digits among the k lowest of s
unfoldable pub bits_from : ℕ → ℕ → ℕ → List ℕ
bits_from zero p s = []
bits_from (suc k) p s = here (s % 2) p (bits_from k (p + 1) (s / 2))

-- the members of a word as a set of numbers below 64, rising
abbrev pub members : ℕ → List ℕ
members w = bits_from 64 0 w

-- the literals in a word
abbrev pub literals : ℕ → List ℕ
literals w = members w

-- s with its lowest set bit cleared
abbrev pub low : ℕ → ℕ
low s = bit_and s (s - 1)

-- t is the lowest member of the 64-bit word s
pub record Lowest (s t : ℕ) : Type 0 where
  pub fits : s < 2 ^ 64
  pub place : t ≡ count_trailing_zeros 64 s
  pub small : t < 64
