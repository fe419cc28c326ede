-- The first line of a text and those behind it, the names on it, and the tests of its size, its last byte and its lines. Assumes nothing.
use mathlib.Core.Path.{◌≡◌, refl, sym, ap, ◌∙◌}
use mathlib.Core.Bool.{Bool, true, false, cond, ◌&&◌, ◌||◌}
use mathlib.Core.Logic.{⊎_elim}
use mathlib.Core.List.{List, [], ◌∷◌, tail}
use Prim.Native.Nat.{ℕ, suc, ◌+◌, ◌-◌, ◌≤◌, ◌<◌}
use native.Mathlib.Omega.{arith}
use lib.Dec.{eqb, leb, ltb}
use lib.ListN.{length, get_or, take, drop}
use lib.Seq.{length-take-le}
use borrow.Author.Tests.{eq-eqb, eqb-true, eqb-false, leb-true, not-false}
use Rattle.sets.proofs.Tests.{dec, clash, both_true}
use Rattle.lists.specs.Bytes.{same, pieces, ended, index, end_of, EndsAt, CountOf}
use Rattle.lists.proofs.Pieces.{line_step, length-ended, length-pieces}
use Rattle.program.specs.Names.{from_word, ends_dated}
use Rattle.text.specs.Lines.{HasLine, first_line, first_items, is_dated, names, clause_lines}
use Rattle.text.specs.Refusals.{wrong_size, unended, too_many_lines}

-- a text that is not empty, and whose last byte is 10
has_last : (x : ℕ) (xs : List ℕ) → get_or (x ∷ xs) (length xs) 0 ≡ 10 → index 10 (x ∷ xs) < suc (length xs)
unfolding index
has_last x [] h = rw (eq-eqb x 10 h) (omega arith)
has_last x (y ∷ ys) h = go (eqb x 10) (has_last y ys h)
  where
    go : (t : Bool) → index 10 (y ∷ ys) < suc (length ys) → cond t 0 (suc (index 10 (y ∷ ys))) < suc (suc (length ys))
    go true r = omega arith
    go false r = omega arith

has_line : (b : List ℕ) → (length b ≡ 0 → ⊥) → get_or b (length b - 1) 0 ≡ 10 → HasLine b
unfolding HasLine end_of
has_line [] h e = absurd (h refl)
has_line (x ∷ xs) h e =
    let q : suc (length xs) - 1 ≡ length xs = omega arith in
    omega (arith, has_last x xs (rw q at e))

-- the names among the items of a line
abbrev pub names_in : List (List ℕ) → List (List ℕ)
names_in is = cond (ends_dated is) (take (length is - 2) is) is

-- the items of a dated book are three or more
pub ends_long : (is : List (List ℕ)) → ends_dated is ≡ true → 3 ≤ length is
unfolding ends_dated
ends_long is h = leb-true 3 (length is) (both_true _ _ (both_true (leb 3 (length is) && same (get_or is (length is - 2) []) from_word) _ h).0).0

names_in_some : (is : List (List ℕ)) → 1 ≤ length is → 1 ≤ length (names_in is)
names_in_some is h = ⊎_elim
    (λ t. rw t (omega (arith, ends_long is t, length-take-le (length is - 2) is (omega arith))))
    (λ t. rw t h)
    (dec (ends_dated is))

-- the first line ends at e, and the others begin behind it
module _ (b : List ℕ) (e : ℕ) (h : HasLine b) (q : EndsAt b 10 0 e) where
  pub both_lines : ended 10 b ≡ take e b ∷ ended 10 (drop (e + 1) b)
  unfolding HasLine
  both_lines = line_step 10 b 0 h ∙ let z : end_of 10 b 0 - 0 ≡ e = omega (arith, q.is) in rw (z, ← q.is)

  pub clause_lines_are : clause_lines b ≡ ended 10 (drop (e + 1) b)
  unfolding clause_lines
  clause_lines_are = ap (λ (l : List (List ℕ)). tail l) both_lines

  pub first_items_are : first_items b ≡ pieces 32 (take e b)
  unfolding first_items
  first_items_are = ap (λ (l : List (List ℕ)). pieces 32 (first_line l)) both_lines

  pub dated_is : is_dated b ≡ ends_dated (pieces 32 (take e b))
  unfolding is_dated
  dated_is = ap ends_dated first_items_are

  pub names_are : names b ≡ names_in (pieces 32 (take e b))
  unfolding names is_dated
  names_are = ap names_in first_items_are

  pub items_count : (n : ℕ) → CountOf 32 (take e b) n → n + 1 ≡ length (first_items b)
  items_count n c = omega (arith, c.is, length-pieces 32 (take e b), ap length first_items_are)

  -- there is always one: an empty line has the empty item, and "from to" is behind another
  pub names_some : 1 ≤ length (names b)
  names_some = rw names_are (names_in_some (pieces 32 (take e b)) (omega (arith, length-pieces 32 (take e b))))

-- ---- the number of lines
pub many_lines_is : (b : List ℕ) (n : ℕ) → CountOf 10 b n → ltb 65 n ≡ too_many_lines b
unfolding too_many_lines
many_lines_is b n c = ap (ltb 65) (c.is ∙ sym (length-ended 10 b))

-- ---- the size and the last byte
module _ (b : List ℕ) where
  pub size_some : wrong_size b ≡ false → 1 ≤ length b
  unfolding wrong_size
  size_some s = ⊎_elim (λ q. clash (eqb (length b) 0 || ltb 4096 (length b)) (rw q) s) (λ q. let n = eqb-false (length b) 0 q in omega arith) (dec (eqb (length b) 0))

  pub plain_line_lem : wrong_size b ≡ false → unended b ≡ false → HasLine b
  unfolding unended
  plain_line_lem s e = has_line b (λ q. omega (arith, size_some s)) (eqb-true _ _ (not-false _ e))
