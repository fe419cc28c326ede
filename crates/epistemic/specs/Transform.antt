-- The epistemic transform of Definition 3.5, over literals that are numbers. Assumes nothing.
use Rattle.std.specs.Prelude.{Bool, true, false, not, cond, ◌&&◌, ℕ, T, eqb}
use mathlib.Core.List.{List, [], ◌∷◌, ◌++◌, map, flat_map}
use Rattle.sets.specs.Words.{Set}
use Rattle.epistemic.specs.Positive.{Rule, Minimal}

-- a clause (3.1); the tag tells apart two clauses of the same text
pub record Tagged : Type 0 where
  pub tag : ℕ
  pub head : List ℕ
  pub body : List ℕ
  pub naf : List ℕ

abbrev pub misses : Set ℕ → List ℕ → Bool
misses I [] = true
misses I (x ∷ l) = not (I x) && misses I l

-- the reduct by I: the clauses whose not-part misses I, without it
unfoldable pub reduct : Set ℕ → List Tagged → List (Rule ℕ)
reduct I [] = []
reduct I (c ∷ P) = cond (misses I c.naf) (record { head = c.head; body = c.body } ∷ reduct I P) (reduct I P)

-- Definition 3.1
abbrev pub Stable : List Tagged → Set ℕ → Type 0
Stable P I = Minimal (reduct I P) I

-- ---- the transform
-- a literal L; K L, read as "L is believed"; the stand-in of a clause's head literal
pub data Atom : Type 0 where
  lit : ℕ → Atom
  know : ℕ → Atom
  stand : Tagged → ℕ → Atom

-- (a) "a clause whose head is all its stand-ins and K of each not-literal, with its body"
abbrev pub rule_a : Tagged → Rule Atom
rule_a c = record { head = map (stand c) c.head ++ map know c.naf; body = map lit c.body }

-- (b) "each head literal from its stand-in"
abbrev pub rule_b : Tagged → ℕ → Rule Atom
rule_b c x = record { head = lit x ∷ []; body = stand c x ∷ [] }

-- (c) "a constraint for each stand-in with each not-literal"
abbrev pub rule_c : Tagged → ℕ → ℕ → Rule Atom
rule_c c x n = record { head = []; body = stand c x ∷ lit n ∷ [] }

-- (d) "each stand-in from its head literal together with any other stand-in of that clause"
abbrev pub rule_d : Tagged → ℕ → ℕ → Rule Atom
rule_d c x y = record { head = stand c x ∷ []; body = lit x ∷ stand c y ∷ [] }

abbrev pub rules_b : Tagged → List (Rule Atom)
rules_b c = map (rule_b c) c.head

abbrev pub rules_c : Tagged → List (Rule Atom)
rules_c c = flat_map (λ x. map (rule_c c x) c.naf) c.head

abbrev pub rules_d : Tagged → List (Rule Atom)
rules_d c = flat_map (λ x. flat_map (λ y. cond (eqb x y) [] (rule_d c x y ∷ [])) c.head) c.head

-- "Each clause with a non-empty not-part .. becomes" (a) to (d); "Other clauses stand."
abbrev pub kappa_naf : Tagged → List (Rule Atom)
kappa_naf c = rule_a c ∷ (rules_b c ++ (rules_c c ++ rules_d c))

abbrev pub kappa_pos : Tagged → List (Rule Atom)
kappa_pos c = record { head = map lit c.head; body = map lit c.body } ∷ []

abbrev pub no_naf : List ℕ → Bool
no_naf [] = true
no_naf (x ∷ l) = false

unfoldable pub kappa_of : Tagged → List (Rule Atom)
kappa_of c = cond (no_naf c.naf) (kappa_pos c) (kappa_naf c)

unfoldable pub kappa : List Tagged → List (Rule Atom)
kappa P = flat_map kappa_of P

-- "those that hold L wherever they hold K L"; the literals of a set
abbrev pub Canonical : Set Atom → Type 0
Canonical M = (x : ℕ) → T (M (know x)) → T (M (lit x))

abbrev pub lits : Set Atom → Set ℕ
lits M x = M (lit x)
