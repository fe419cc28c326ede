-- When the reader says no: refusals 1 to 8 and 22, each over the whole text. Assumes nothing.
use Rattle.std.specs.Prelude.{Bool, cond, not, ◌&&◌, ◌||◌, List, [], ◌∷◌, ◌++◌, map, ℕ, ◌+◌, ◌-◌, eqb, leb, ltb, length, get_or, take, drop}
use Rattle.sets.specs.Lists.{every, any_of}
use Rattle.lists.specs.Bytes.{distinct}
use Rattle.program.specs.Names.{is_plain, is_name}
use Rattle.program.specs.Refusals.{lowest}
use Rattle.text.specs.Lines.{lines, is_dated, names, clause_lines, row}

-- 1. "The book has 0 or more than 4,096 bytes."
unfoldable pub wrong_size : List ℕ → Bool
wrong_size b = eqb (length b) 0 || ltb 4096 (length b)

-- 2. "Its last byte isn't 10."
unfoldable pub unended : List ℕ → Bool
unended b = not (eqb (get_or b (length b - 1) 0) 10)

-- 3. "Some byte is not a-z, 0-9, space or 10."
unfoldable pub is_foreign : ℕ → Bool
is_foreign x = not (is_plain x || eqb x 32 || eqb x 10)

unfoldable pub has_foreign : List ℕ → Bool
has_foreign b = any_of is_foreign b

-- 4. "It has more than 65 lines."
unfoldable pub too_many_lines : List ℕ → Bool
too_many_lines b = ltb 65 (length (lines b))

-- 5. "The names line breaks the form above": "Names: 1 to 12, each 1 to 8 bytes of a-z and 0-9, beginning with a letter".
unfoldable pub names_broken : List ℕ → Bool
names_broken b = not (leb 1 (length (names b)) && leb (length (names b)) 12 && every is_name (names b))

-- 6. "Two names are equal."
unfoldable pub names_equal : List ℕ → Bool
names_equal b = not (distinct (names b))

-- 7. "A clause line breaks the form above": "a value for each name", "a decimal number 0 to 63".
abbrev pub is_value : ℕ → Bool
is_value v = leb v 63

-- document 02, U13: "day numbers from 0 to 65535, written as values are"
abbrev pub is_day : ℕ → Bool
is_day v = leb v 65535

-- the numbers of a line for n names, behind which "each clause line ends in two day numbers" where the book is dated
unfoldable pub is_row : Bool → ℕ → List ℕ → Bool
is_row dated n vs = eqb (length vs) (n + cond dated 2 0) && every is_value (take n vs) && every is_day (drop n vs)

unfoldable pub clause_broken : List ℕ → Bool
clause_broken b = not (every (is_row (is_dated b) (length (names b))) (map row (clause_lines b)))

-- 8. "A clause line has only zeros."; document 02, U13: "refusal 8 looks at the values only"
unfoldable pub only_zeros : List ℕ → Bool
only_zeros b = any_of (λ vs. every (eqb 0) (take (length (names b)) vs)) (map row (clause_lines b))

-- 22. "in a dated book .. a first day is after its last"
unfoldable pub days_reversed : List ℕ → Bool
days_reversed b = is_dated b && any_of (λ vs. ltb (get_or vs (length (names b) + 1) 0) (get_or vs (length (names b)) 0)) (map row (clause_lines b))

-- 1 to 6: the tests of the bytes and of the names line; the lowest of them that applies, 0 for none
abbrev pub opening : List ℕ → List (ℕ × Bool)
opening b = (1, wrong_size b) ∷ (2, unended b) ∷ (3, has_foreign b) ∷ (4, too_many_lines b) ∷ (5, names_broken b) ∷ (6, names_equal b) ∷ []

unfoldable pub opening_refusal : List ℕ → ℕ
opening_refusal b = lowest (opening b)

-- "The reader meets 1 to 8", and 22 "behind 8 in reading"
abbrev pub refusals : List ℕ → List (ℕ × Bool)
refusals b = opening b ++ (7, clause_broken b) ∷ (8, only_zeros b) ∷ (22, days_reversed b) ∷ []

-- "Of several that apply, the lowest is given, wherever in the book each arises": 0 for none
unfoldable pub refusal : List ℕ → ℕ
refusal b = lowest (refusals b)
