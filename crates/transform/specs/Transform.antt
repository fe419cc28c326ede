-- The epistemic transform of a program of words (000, Definition 3.5). Assumes nothing.
use Rattle.std.specs.Prelude.{ℕ, ◌+◌, eqb, length, cond}
use mathlib.Core.List.{List, [], ◌∷◌, ◌++◌, map, flat_map}
use Rattle.program.specs.Clauses.{Clause}
use Rattle.sets.specs.Words.{mask}
use Rattle.literals.specs.Literals.{literals}
use Rattle.operator.specs.Operator.{WordRule}

-- a head literal and the place of its stand-in
pub record Stand : Type 0 where
  pub literal : ℕ
  pub at : ℕ

-- the literals of a head, each with its stand-in: the stand-ins follow each other from s on
unfoldable pub numbered : ℕ → List ℕ → List Stand
numbered s [] = []
numbered s (x ∷ l) = record { literal = x; at = s } ∷ numbered (s + 1) l

-- the clause with these members in its head and its body
abbrev pub rule : List ℕ → List ℕ → WordRule
rule h b = record { head = mask h; body = mask b }

-- (a) all stand-ins and K of each not-literal, with the body; K of n stands at m + n
abbrev pub clause_a : ℕ → List Stand → List ℕ → List ℕ → WordRule
clause_a m S N B = rule (map (λ (p : Stand). p.at) S ++ map (λ n. m + n) N) B

-- (b) a head literal from its stand-in
abbrev pub clause_b : Stand → WordRule
clause_b p = rule (p.literal ∷ []) (p.at ∷ [])

-- (c) a constraint for a stand-in with a not-literal
abbrev pub clause_c : ℕ → ℕ → WordRule
clause_c a n = rule [] (a ∷ n ∷ [])

-- (d) a stand-in from its head literal together with another stand-in of that clause
abbrev pub clause_d : Stand → Stand → List WordRule
clause_d p q = cond (eqb p.literal q.literal) [] (rule (p.at ∷ []) (p.literal ∷ q.at ∷ []) ∷ [])

-- what a clause with a not-part becomes, over its stand-ins S, not-literals N and body B
unfoldable pub rewritten : ℕ → List Stand → List ℕ → List ℕ → List WordRule
rewritten m S N B = clause_a m S N B ∷ (map clause_b S ++ (flat_map (λ (p : Stand). map (clause_c p.at) N) S ++ flat_map (λ p. flat_map (clause_d p) S) S))

-- what a clause becomes, its stand-ins from s on; other clauses stand
unfoldable pub becomes : ℕ → ℕ → Clause → List WordRule
becomes m s c = cond (eqb c.naf 0) (rule (literals c.head) (literals c.body) ∷ []) (rewritten m (numbered s (literals c.head)) (literals c.naf) (literals c.body))

-- how many stand-ins a clause gets
unfoldable pub stand_ins : Clause → ℕ
stand_ins c = cond (eqb c.naf 0) 0 (length (literals c.head))

-- the transform, the stand-ins of all clauses from s on
unfoldable pub kappa_from : ℕ → ℕ → List Clause → List WordRule
kappa_from m s [] = []
kappa_from m s (c ∷ C) = becomes m s c ++ kappa_from m (s + stand_ins c) C

-- how many stand-ins there are
unfoldable pub all_stand_ins : List Clause → ℕ
all_stand_ins [] = 0
all_stand_ins (c ∷ C) = stand_ins c + all_stand_ins C

-- W: literals, K of each, stand-ins
unfoldable pub members : ℕ → List Clause → ℕ
members m C = m + m + all_stand_ins C
