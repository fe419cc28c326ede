-- Sakama and Inoue, "Paraconsistent Stable Semantics for Extended Disjunctive Programs", Definitions 2.1 and 3.1, over sets of literals. Assumes nothing.
use Rattle.std.specs.Prelude.{◌≡◌, ◌⊎◌, Bool, true, false, cond, List, ℕ, suc, pred, ◌%◌, T, eqb}
use Rattle.sets.specs.Lists.{◌∈◌}
use Rattle.sets.specs.Words.{Set, ◌⊑◌}

-- A literal is a number: atom i is literal 2i and its negation is literal 2i + 1. The complement of L is the paper's ¬L.
unfoldable pub complement : ℕ → ℕ
complement L = cond (eqb (L % 2) 0) (suc L) (pred L)

-- "The set of truth values of our four-valued logic is .. {t, f, ⊤, ⊥} .. true, false, contradictory, and undefined."
pub data Value : Type 0 where
  undefined 𝐭 𝐟 contradictory : Value

-- ".. a complete lattice under the ordering ⪯ such that ⊥ ⪯ x ⪯ ⊤ for x ∈ {t, f}" (Figure 1)
infix 50 ◌⪯◌
abbrev pub ◌⪯◌ : Value → Value → Bool
undefined ⪯ y = true
𝐭 ⪯ undefined = false
𝐭 ⪯ 𝐭 = true
𝐭 ⪯ 𝐟 = false
𝐭 ⪯ contradictory = true
𝐟 ⪯ undefined = false
𝐟 ⪯ 𝐭 = false
𝐟 ⪯ 𝐟 = true
𝐟 ⪯ contradictory = true
contradictory ⪯ undefined = false
contradictory ⪯ 𝐭 = false
contradictory ⪯ 𝐟 = false
contradictory ⪯ contradictory = true

-- I(L) is "t if L ∈ I and ¬L ∉ I, f if ¬L ∈ I and L ∉ I, ⊤ if both L ∈ I and ¬L ∈ I, ⊥ otherwise".
abbrev pub value_by : Bool → Bool → Value
value_by true false = 𝐭
value_by false true = 𝐟
value_by true true = contradictory
value_by false false = undefined

unfoldable pub value_of : Set ℕ → ℕ → Value
unfolding complement
value_of I L = value_by (I L) (I (complement L))

-- Definition 2.1, 1: "I ⊨ L iff t ⪯ I(L)"
infix 50 ◌⊨◌
unfoldable pub ◌⊨◌ : Set ℕ → ℕ → Type 0
unfolding value_of
I ⊨ L = T (𝐭 ⪯ value_of I L)

-- Section 3.1: "I ⊨ not L iff I(L) ⪯ f"
infix 50 ◌⊨not◌
unfoldable pub ◌⊨not◌ : Set ℕ → ℕ → Type 0
unfolding value_of
I ⊨not L = T (value_of I L ⪯ 𝐟)

-- A ground clause (3.1), L1 ∨ .. ← .., Lm, not Lm+1, ..: the sets of its head, its body and its not-part.
pub record Rule : Type 0 where
  pub head : Set ℕ
  pub body : Set ℕ
  pub naf : Set ℕ

-- Definition 2.1, 2: a disjunction holds "iff I ⊨ Li for some i".
abbrev pub Head : Set ℕ → Rule → Type 0
Head I c = (L : ℕ) × T (c.head L) × (I ⊨ L)

-- Definition 2.1, 3: a conjunction holds "iff I ⊨ Li for every i".
abbrev pub Body : Set ℕ → Rule → Type 0
Body I c = ((L : ℕ) → T (c.body L) → I ⊨ L) × ((L : ℕ) → T (c.naf L) → I ⊨not L)

-- Definition 2.1, 4: "For any ground clause C = F ← G, I ⊨ C iff I ⊨ F or I ⊭ G."
abbrev pub Satisfies : Set ℕ → Rule → Type 0
Satisfies I c = Head I c ⊎ (Body I c → ⊥)

-- "An interpretation I is a model of a program P if I satisfies every ground clause from P."
abbrev pub Model : Set ℕ → (Rule → Type 0) → Type 0
Model I P = (c : Rule) → P c → Satisfies I c

-- the clause (3.2) of a clause (3.1): its not-part is left out
abbrev pub positive : Rule → Rule
positive c = record { head = c.head; body = c.body; naf = λ L. false }

-- Definition 3.1: a clause "is in P^I iff there is a ground clause of the form (3.1) from P such that {Lm+1, .., Ln} ∩ I = ∅".
abbrev pub Reduct : List Rule → Set ℕ → Rule → Type 0
Reduct P I r = (c : Rule) × (c ∈ P) × (r ≡ positive c) × ((L : ℕ) → T (c.naf L) → T (I L) → ⊥)

-- Definition 3.1: "I is called a paraconsistent stable model (shortly, p-stable model) of P if I is a p-minimal model of P^I",
-- a model with no model strictly within it: a model J ⊆ I holds all of I.
pub record PStable (P : List Rule) (I : Set ℕ) : Type 0 where
  pub model : Model I (Reduct P I)
  pub minimal : (J : Set ℕ) → J ⊑ I → Model J (Reduct P I) → I ⊑ J
