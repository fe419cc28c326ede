-- Short books, and what is read of them: whether they are dated, their names, and the refusal, 0 for none. Assumes nothing.
use Rattle.std.specs.Prelude.{Bool, true, false, ℕ, replicate}
use mathlib.Core.List.{List, [], ◌∷◌, ◌++◌, flat_map}
use Rattle.program.specs.Names.{from_word, to_word}
use Rattle.text.specs.Lines.{names_line, values_line}

-- the items on the first line of a book and the numbers on the others, and what is read of it
pub record Sample : Type 0 where
  pub items : List (List ℕ)
  pub lines : List (List ℕ)
  pub dated : Bool
  pub names : List (List ℕ)
  pub refused : ℕ

abbrev pub sample : List (List ℕ) → List (List ℕ) → Bool → List (List ℕ) → ℕ → Sample
sample is ls d ns r = record { items = is; lines = ls; dated = d; names = ns; refused = r }

-- its text
abbrev pub text_of : Sample → List ℕ
text_of s = names_line s.items ++ flat_map values_line s.lines

-- the name a
abbrev pub a_name : List ℕ
a_name = 97 ∷ []

-- document 02, U13: "All names may thus be 12 besides them."; "from to" is no name "behind at least one other name", in that order, and is taken off once
-- "refusals 5 and 7 read the longer lines, and refusal 8 looks at the values only"; 22 is "behind 8 in reading"
unfoldable pub samples : List Sample
samples =
    sample (replicate 12 a_name ++ (from_word ∷ to_word ∷ [])) [] true (replicate 12 a_name) 6
    ∷ sample (replicate 13 a_name ++ (from_word ∷ to_word ∷ [])) [] true (replicate 13 a_name) 5
    ∷ sample (from_word ∷ to_word ∷ []) [] false (from_word ∷ to_word ∷ []) 0
    ∷ sample (a_name ∷ to_word ∷ from_word ∷ []) [] false (a_name ∷ to_word ∷ from_word ∷ []) 0
    ∷ sample (from_word ∷ to_word ∷ from_word ∷ to_word ∷ []) [] true (from_word ∷ to_word ∷ []) 0
    ∷ sample (a_name ∷ from_word ∷ to_word ∷ from_word ∷ to_word ∷ []) [] true (a_name ∷ from_word ∷ to_word ∷ []) 0
    ∷ sample (a_name ∷ from_word ∷ to_word ∷ []) ((1 ∷ 4 ∷ 5 ∷ []) ∷ []) true (a_name ∷ []) 0
    ∷ sample (a_name ∷ from_word ∷ to_word ∷ []) ((1 ∷ 4 ∷ []) ∷ []) true (a_name ∷ []) 7
    ∷ sample (a_name ∷ from_word ∷ to_word ∷ []) ((0 ∷ 5 ∷ 4 ∷ []) ∷ []) true (a_name ∷ []) 8
    ∷ sample (a_name ∷ from_word ∷ to_word ∷ []) ((1 ∷ 5 ∷ 4 ∷ []) ∷ []) true (a_name ∷ []) 22
    ∷ []
