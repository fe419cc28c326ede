-- Names of atoms, and the places that hold them. Assumes nothing.
use Rattle.std.specs.Prelude.{Bool, ◌&&◌, ◌||◌, List, [], ◌∷◌, ℕ, ◌-◌, ◌*◌, leb, length, get_or, take, drop}
use Rattle.sets.specs.Lists.{every, tabulate}
use Rattle.lists.specs.Bytes.{index, same}
use Rattle.program.specs.declared.Program.{Program}

-- a-z; 0-9
abbrev pub is_letter : ℕ → Bool
is_letter x = leb 97 x && leb x 122

abbrev pub is_digit : ℕ → Bool
is_digit x = leb 48 x && leb x 57

abbrev pub is_plain : ℕ → Bool
is_plain x = is_letter x || is_digit x

-- "each 1 to 8 bytes of a-z and 0-9, beginning with a letter"
unfoldable pub is_name : List ℕ → Bool
is_name xs = leb 1 (length xs) && leb (length xs) 8 && every is_plain xs && every is_letter (take 1 xs)

-- the place of eight bytes with the number i
unfoldable pub place : List ℕ → ℕ → List ℕ
place xs i = take 8 (drop (8 * i) xs)

-- the name in it: what stands before the first zero
unfoldable pub name_at : List ℕ → ℕ → List ℕ
unfolding place index
name_at xs i = take (index 0 (place xs i)) (place xs i)

-- the names of a table
unfoldable pub names_of : Program → List (List ℕ)
unfolding name_at tabulate
names_of p = tabulate (name_at p.atom_names) p.atom_count

-- document 02, U13: "from", "to"
abbrev pub from_word : List ℕ
from_word = 102 ∷ 114 ∷ 111 ∷ 109 ∷ []

abbrev pub to_word : List ℕ
to_word = 116 ∷ 111 ∷ []

-- the items of a names line end in "from to" "behind at least one other name"
unfoldable pub ends_dated : List (List ℕ) → Bool
ends_dated is = leb 3 (length is) && same (get_or is (length is - 2) []) from_word && same (get_or is (length is - 1) []) to_word
