-- Decimal numbers of any size. Assumes nothing.
use Rattle.std.specs.Prelude.{Bool, cond, ◌&&◌, List, [], ◌∷◌, ◌++◌, ℕ, zero, suc, ◌+◌, ◌-◌, ◌*◌, ◌/◌, ◌%◌, leb, ltb, Option, Some, None}
use Rattle.sets.specs.Least.{least}
use Rattle.lists.specs.Bytes.{same}

-- the text of v: its one digit, or the text of its tens and the digit of its ones; k bounds the number of digits
unfoldable pub numeral : ℕ → ℕ → List ℕ
numeral zero v = []
numeral (suc k) v = let tens = numeral k (v / 10) in cond (ltb v 10) ((48 + v) ∷ []) (tens ++ (48 + v % 10) ∷ [])

-- "a decimal number .. without leading zeros ("0" itself is fine)": v has fewer than v + 2 digits
unfoldable pub decimal : ℕ → List ℕ
unfolding numeral
decimal v = numeral (suc v) v

-- the least number up to the bound whose decimal text is the item; bound + 1 for none
unfoldable pub number_of : ℕ → List ℕ → ℕ
unfolding decimal
number_of bound item = least (λ v. same (decimal v) item) (suc bound)

-- ---- what the routines of this crate answer
-- the number that a text is, up to the bound
unfoldable pub parsed_of : ℕ → List ℕ → Option ℕ
unfolding number_of
parsed_of bound item = cond (leb (number_of bound item) bound) (Some (number_of bound item)) None

-- the digit that a byte is, 10 for another byte
unfoldable pub digit_of : ℕ → ℕ
digit_of x = cond (leb 48 x && leb x 57) (x - 48) 10

-- the digit d may stand behind the number v
unfoldable pub goes_on : ℕ → ℕ → ℕ → Bool
goes_on v d bound = leb 1 v && ltb d 10 && leb (10 * v + d) bound
