-- The number that an item is the decimal text of, and the lines of numbers. Assumes nothing.
use mathlib.Core.Path.{◌≡◌, refl, sym, ap, ◌∙◌}
use mathlib.Core.Bool.{Bool, true, cond, not, ◌&&◌}
use mathlib.Core.List.{List, ◌∷◌, map}
use Prim.Native.Nat.{ℕ, ◌+◌, ◌≤◌, ◌<◌}
use native.Mathlib.Omega.{arith}
use lib.Dec.{eqb}
use lib.ListN.{length, take, drop, take-append-drop}
use lib.Seq.{length-take-le}
use borrow.Author.Tests.{leb-true, le-leb, ne_eqb, eqb-true}
use Rattle.sets.specs.Lists.{every}
use Rattle.sets.proofs.Tests.{both_true}
use Rattle.sets.proofs.Lists.{every_append, every_mono}
use Rattle.lists.specs.Bytes.{join, pieces}
use Rattle.lists.proofs.Pieces.{pieces-join, join-pieces}
use Rattle.lists.proofs.Padding.{isnt, all-free}
use Rattle.decimal.specs.Decimal.{decimal}
use Rattle.decimal.proofs.Laws.{decimal_short, decimal-every, number_hit, number_back}
use Rattle.text.specs.Lines.{value_of, row}
use Rattle.text.specs.Refusals.{is_value, is_day, is_row}
use Rattle.text.proofs.Lists.{every_of_map, every_all, map_back}

-- an item is the text of its number, and of no other
number_is : (i : List ℕ) (v : ℕ) → v ≤ 65535 → decimal v ≡ i → value_of i ≡ v
unfolding value_of
number_is i v h e = number_hit 65535 i v h e

number_text : (i : List ℕ) → value_of i ≤ 65535 → decimal (value_of i) ≡ i
unfolding value_of
number_text i h = number_back 65535 i h

pub value_short : (v : ℕ) → v ≤ 63 → length (decimal v) ≤ 2
value_short v h = decimal_short 1 v (omega arith)

pub day_short : (v : ℕ) → v ≤ 65535 → length (decimal v) ≤ 5
day_short v h = decimal_short 4 v (omega arith)

-- the numbers of a clause line for n names: a value for each, and two days behind them where the book is dated
pub record RowParts (dated : Bool) (n : ℕ) (vs : List ℕ) : Type 0 where
  pub long : length vs ≡ n + cond dated 2 0
  pub values : every is_value (take n vs) ≡ true
  pub days : every is_day (drop n vs) ≡ true
  pub first_n : length (take n vs) ≡ n
  pub small : every is_day vs ≡ true

pub row_parts : (dated : Bool) (n : ℕ) (vs : List ℕ) → is_row dated n vs ≡ true → RowParts dated n vs
unfolding is_row
row_parts dated n vs h =
    let a = both_true (eqb (length vs) (n + cond dated 2 0) && every is_value (take n vs)) (every is_day (drop n vs)) h in
    let b = both_true (eqb (length vs) (n + cond dated 2 0)) (every is_value (take n vs)) a.0 in
    let l = eqb-true (length vs) (n + cond dated 2 0) b.0 in
    record {
      long = l;
      values = b.1;
      days = a.1;
      first_n = length-take-le n vs (omega arith);
      small = rw (← take-append-drop n vs)
          (every_append is_day (take n vs) (drop n vs) (every_mono is_value is_day (λ v t. le-leb v 65535 (omega (arith, leb-true v 63 t))) (take n vs) b.1) a.1);
    }

pub row_long : (dated : Bool) (n : ℕ) (vs : List ℕ) → is_row dated n vs ≡ true → length vs ≡ n + cond dated 2 0
row_long dated n vs h = (row_parts dated n vs h).long

-- ---- decimal texts are free of what separates them
module _ (c : ℕ) (low : c < 48) where
  pub decimal_isnt : (v : ℕ) → every (isnt c) (decimal v) ≡ true
  decimal_isnt = decimal-every (isnt c) (λ d h. ap not (ne_eqb (48 + d) c (λ e. omega arith)))

  pub decimals_isnt : (vs : List ℕ) → every (every (isnt c)) (map decimal vs) ≡ true
  decimals_isnt = every_all decimal (every (isnt c)) decimal_isnt

-- the values of a line, without the byte that ends it
unfoldable pub plain_line : List ℕ → List ℕ
plain_line vs = join 32 (map decimal vs)

-- the items of a line of values are their texts
pub items_are : (v : ℕ) (vs : List ℕ) → pieces 32 (plain_line (v ∷ vs)) ≡ map decimal (v ∷ vs)
unfolding plain_line
items_are v vs = pieces-join 32 (decimal v) (map decimal vs) (all-free 32 (map decimal (v ∷ vs)) (decimals_isnt 32 (omega arith) (v ∷ vs)))

-- ---- items to numbers and back
-- a clause line is the line of its numbers
pub line_back : (dated : Bool) (n : ℕ) (l : List ℕ) → is_row dated n (row l) ≡ true → plain_line (row l) ≡ l
unfolding plain_line row
line_back dated n l h =
    let is = pieces 32 l in
    let e : every (λ i. is_day (value_of i)) is ≡ true = sym (every_of_map value_of is_day is) ∙ (row_parts dated n (row l) h).small in
    ap (join 32) (map_back value_of (λ i. is_day (value_of i)) decimal (λ i t. number_text i (leb-true (value_of i) 65535 t)) is e) ∙ join-pieces 32 l

pub numbers_back : (vs : List ℕ) → every is_day vs ≡ true → map value_of (map decimal vs) ≡ vs
numbers_back = map_back decimal is_day value_of (λ v t. number_is (decimal v) v (leb-true v 65535 t) refl)
