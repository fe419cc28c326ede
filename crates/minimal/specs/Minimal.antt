-- Which words satisfy every clause, and which of a list are minimal. Assumes nothing.
use Rattle.std.specs.Prelude.{ℕ, eqb, Bool, not, ◌&&◌, List}
use Rattle.std.specs.Int.Bits.{bit_and}
use Rattle.sets.specs.Lists.{sift, any_of}
use Rattle.sets.specs.Words.{inside}
use Rattle.operator.specs.Operator.{WordRule}

-- w contains the body of c and meets its head nowhere
abbrev pub violates : ℕ → WordRule → Bool
violates w c = inside c.body w && eqb (bit_and c.head w) 0

-- w satisfies every clause
abbrev pub satisfies : List WordRule → ℕ → Bool
satisfies Q w = not (any_of (violates w) Q)

-- v is a proper subset of w
abbrev pub proper_in : ℕ → ℕ → Bool
proper_in w v = inside v w && not (eqb v w)

-- no member of the list is a proper subset of w
abbrev pub least_in : List ℕ → ℕ → Bool
least_in l w = not (any_of (proper_in w) l)

-- the minimal ones of a list
unfoldable pub minimals : List ℕ → List ℕ
minimals l = sift (least_in l) l
