-- The same over words: a clause is three words, an interpretation is a word. Assumes nothing.
use Rattle.std.specs.Prelude.{Bool, not, ◌&&◌, ◌||◌, List, map, ℕ, ◌*◌, ◌^◌, eqb, get_or}
use Rattle.sets.specs.Lists.{every, sift, below}
use Rattle.sets.specs.Words.{bit, inside, apart, meets}
use Rattle.sets.specs.Least.{least}
use Rattle.program.specs.Clauses.{Clause, clause_of, no_clause}
use Rattle.semantics.specs.Definitions.{Rule}

-- a clause of words as sets of literals; a program as such
abbrev pub rule_of : Clause → Rule
rule_of c = record { head = bit c.head; body = bit c.body; naf = bit c.naf }

abbrev pub rules_of : List Clause → List Rule
rules_of P = map rule_of P

-- "A word satisfies a clause when its body lies in the word, its not-part misses the word, and then its head meets the word;
-- or when one of the first two fails."
unfoldable pub satisfies : ℕ → Clause → Bool
satisfies w c = not (inside c.body w && apart c.naf w) || meets c.head w

-- "The reduct by word I keeps, without its not-part, each clause whose not-part misses I."
unfoldable pub reduct : List Clause → ℕ → List Clause
unfolding sift
reduct P I = map (λ c. clause_of c.head c.body 0) (sift (λ c. apart c.naf I) P)

-- w satisfies each clause
unfoldable pub is_model : List Clause → ℕ → Bool
unfolding every satisfies
is_model P w = every (satisfies w) P

-- the reduct by I keeps the clause, and w violates what it keeps
unfoldable pub violates : ℕ → ℕ → Clause → Bool
violates I w c = inside c.body w && apart c.naf I && apart c.head w

-- the same of clause k of P
unfoldable pub violated_at : List Clause → ℕ → ℕ → ℕ → Bool
unfolding violates
violated_at P I w k = violates I w (get_or P k no_clause)

-- J is a subset of I that satisfies the clauses R
unfoldable pub smaller : List Clause → ℕ → ℕ → Bool
unfolding is_model
smaller R I J = inside J I && is_model R J

-- "the numerically least smaller subset that satisfies the reduct"; I where there is none
unfoldable pub least_smaller : List Clause → ℕ → ℕ
unfolding least smaller reduct
least_smaller P I = let R = reduct P I in least (smaller R I) I

-- "I is p-stable when it satisfies the reduct by I and no other subset of I does (Definition 3.1)."
unfoldable pub is_stable : List Clause → ℕ → Bool
unfolding is_model reduct least_smaller
is_stable P I = is_model (reduct P I) I && eqb (least_smaller P I) I

-- the p-stable words over n atoms, rising
unfoldable pub models : ℕ → List Clause → List ℕ
unfolding sift is_stable below
models n P = sift (is_stable P) (below (2 ^ (2 * n)))
