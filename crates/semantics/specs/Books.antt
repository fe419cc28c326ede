-- Document 01's sample books in its own notation: lines of values for the clauses, lines of values for the models. Assumes nothing.
use Rattle.std.specs.Prelude.{List, [], ◌∷◌, map, ℕ}
use Rattle.program.specs.Clauses.{Clause}
use Rattle.program.specs.Values.{clause_of_values, word_of}

-- a line of values
abbrev pub ⟨◌⟩ : ℕ → List ℕ
⟨ a ⟩ = a ∷ []

abbrev pub ⟨◌·◌⟩ : ℕ → ℕ → List ℕ
⟨ a · b ⟩ = a ∷ b ∷ []

abbrev pub ⟨◌·◌·◌⟩ : ℕ → ℕ → ℕ → List ℕ
⟨ a · b · c ⟩ = a ∷ b ∷ c ∷ []

pub record Book : Type 0 where
  pub names : ℕ
  pub lines : List (List ℕ)
  pub gives : List (List ℕ)

abbrev pub book : ℕ → List (List ℕ) → List (List ℕ) → Book
book n ls ms = record { names = n; lines = ls; gives = ms }

-- the ten starred books, as they stand in document 01, and as an eleventh row, not starred, the book printed with the report
unfoldable pub books : List Book
books =
    book 3 (⟨ 1 · 1 · 0 ⟩ ∷ ⟨ 2 · 0 · 0 ⟩ ∷ ⟨ 0 · 2 · 0 ⟩ ∷ ⟨ 0 · 0 · 1 ⟩ ∷ []) (⟨ 3 · 2 · 1 ⟩ ∷ ⟨ 2 · 3 · 1 ⟩ ∷ [])
    ∷ book 2 (⟨ 17 · 0 ⟩ ∷ ⟨ 0 · 1 ⟩ ∷ []) []
    ∷ book 3 (⟨ 2 · 1 · 0 ⟩ ∷ ⟨ 1 · 0 · 8 ⟩ ∷ ⟨ 0 · 0 · 18 ⟩ ∷ []) (⟨ 3 · 0 · 2 ⟩ ∷ ⟨ 1 · 1 · 2 ⟩ ∷ [])
    ∷ book 2 (⟨ 2 · 0 ⟩ ∷ ⟨ 1 · 16 ⟩ ∷ []) (⟨ 3 · 0 ⟩ ∷ [])
    ∷ book 2 (⟨ 1 · 0 ⟩ ∷ ⟨ 2 · 0 ⟩ ∷ ⟨ 0 · 17 ⟩ ∷ []) []
    ∷ book 1 (⟨ 4 ⟩ ∷ []) (⟨ 0 ⟩ ∷ [])
    ∷ book 1 (⟨ 2 ⟩ ∷ []) (⟨ 2 ⟩ ∷ [])
    ∷ book 1 (⟨ 1 ⟩ ∷ ⟨ 4 ⟩ ∷ []) []
    ∷ book 3 (⟨ 1 · 1 · 16 ⟩ ∷ ⟨ 0 · 1 · 0 ⟩ ∷ []) (⟨ 0 · 1 · 0 ⟩ ∷ [])
    ∷ book 3 (⟨ 1 · 0 · 0 ⟩ ∷ ⟨ 0 · 1 · 0 ⟩ ∷ ⟨ 16 · 16 · 1 ⟩ ∷ []) (⟨ 1 · 1 · 0 ⟩ ∷ [])
    ∷ book 2 (⟨ 1 · 0 ⟩ ∷ ⟨ 2 · 0 ⟩ ∷ ⟨ 16 · 1 ⟩ ∷ []) (⟨ 3 · 0 ⟩ ∷ [])
    ∷ []

-- a book's clauses, and its models as words
abbrev pub clauses_of : Book → List Clause
clauses_of b = map clause_of_values b.lines

abbrev pub models_of : Book → List ℕ
models_of b = map word_of b.gives
