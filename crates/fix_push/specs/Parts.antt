-- (b), (c) and (d) of a clause, as what each of its head literals gives. Assumes nothing.
use Rattle.std.specs.Prelude.{ℕ}
use mathlib.Core.List.{List, [], ◌∷◌, flat_map}
use Rattle.literals.specs.Literals.{literals}
use Rattle.operator.specs.Operator.{WordRule}
use Rattle.transform.specs.Transform.{Stand, numbered, clause_b, clause_c, clause_d}

-- what is to come for the literals in `rest`, whose stand-ins stand from p on
abbrev pub for_each : (Stand → List WordRule) → ℕ → ℕ → List WordRule
for_each f p rest = flat_map f (numbered p (literals rest))

-- (b)
unfoldable pub one_b : Stand → List WordRule
one_b p = clause_b p ∷ []

-- (c) for the stand-in a
unfoldable pub one_c : ℕ → Stand → List WordRule
one_c a n = clause_c a n.literal ∷ []

-- (c) for one stand-in and each not-literal
unfoldable pub each_c : ℕ → Stand → List WordRule
each_c naf p = for_each (one_c p.at) 0 naf

-- (d) for one head literal
unfoldable pub each_d : ℕ → ℕ → Stand → List WordRule
each_d head s p = for_each (clause_d p) s head
