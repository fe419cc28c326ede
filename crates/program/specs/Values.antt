-- The values of an atom in a word, and of an atom in a clause. Assumes nothing.
use Rattle.std.specs.Prelude.{Bool, List, [], ◌∷◌, map, ℕ, ◌+◌, ◌*◌, ◌/◌, ◌%◌, ◌^◌, ltb}
use Rattle.sets.specs.Lists.{tabulate}
use Rattle.sets.specs.Words.{bit}
use Rattle.lists.specs.Bytes.{one_if}
use Rattle.program.specs.Clauses.{Clause, clause_of}

-- "With n names, name i (from 0) has bit 2i for itself and bit 2i+1 for its negation": a word over n atoms has no bit at 2n or above.
unfoldable pub is_word : ℕ → ℕ → Bool
is_word n w = ltb w (2 ^ (2 * n))

-- "The two bits of a name are its value: 0 undefined, 1 true, 2 false, 3 contradictory."
unfoldable pub value_in : ℕ → ℕ → ℕ
value_in w i = w / 2 ^ (2 * i) % 4

-- A clause's value for a name: "the sum of" 1 and 2 for the head, 4 and 8 for the body, 16 and 32 for the not-part.
unfoldable pub clause_value : Clause → ℕ → ℕ
unfolding value_in
clause_value c i = value_in c.head i + 4 * value_in c.body i + 16 * value_in c.naf i

-- The same by membership: "the sum of" 1 where "the name stands in the head" and 2 where "its negation does", so 4 and 8 for the body, and 16 and 32 for the not-part.
-- A part is a word: it holds name i where bit 2i is set, and the negation of name i where bit 2i+1 is.
unfoldable pub sum_for : Clause → ℕ → ℕ
unfolding bit
sum_for c i =
    one_if (bit c.head (2 * i)) + 2 * one_if (bit c.head (2 * i + 1))
    + 4 * one_if (bit c.body (2 * i)) + 8 * one_if (bit c.body (2 * i + 1))
    + 16 * one_if (bit c.naf (2 * i)) + 32 * one_if (bit c.naf (2 * i + 1))

-- the word with these values, "name i (from 0) has bit 2i for itself and bit 2i+1 for its negation": that of atom 0 lowest
unfoldable pub word_of : List ℕ → ℕ
word_of [] = 0
word_of (v ∷ vs) = v + 4 * word_of vs

-- the two bits of a value that count k and 2k
unfoldable pub bits_of : ℕ → ℕ → ℕ
bits_of k v = v / k % 4

-- the word of those bits of a row's values
unfoldable pub word_by : ℕ → List ℕ → ℕ
word_by k vs = word_of (map (bits_of k) vs)

-- "1: the name stands in the head; 2: its negation does"
abbrev pub head_of : List ℕ → ℕ
head_of vs = word_by 1 vs

-- "4: the name stands in the body; 8: its negation does"
abbrev pub body_of : List ℕ → ℕ
body_of vs = word_by 4 vs

-- "16: "not name" stands in the body; 32: "not negation" does"
abbrev pub naf_of : List ℕ → ℕ
naf_of vs = word_by 16 vs

-- "A clause is thus head, body and not-part": the clause with these values
unfoldable pub clause_of_values : List ℕ → Clause
clause_of_values vs = clause_of (head_of vs) (body_of vs) (naf_of vs)

-- a word's values for n atoms; a clause's
unfoldable pub word_values : ℕ → ℕ → List ℕ
unfolding tabulate value_in
word_values n w = tabulate (value_in w) n

unfoldable pub clause_values : ℕ → Clause → List ℕ
unfolding tabulate clause_value
clause_values n c = tabulate (clause_value c) n
