-- Positive programs over any atoms: models, minimal models, the operator of Definition 2.7 and the stages of Definition 2.9. Assumes nothing.
use Rattle.std.specs.Prelude.{◌↔◌, Bool, true, false, cond, ◌&&◌, ◌||◌, ℕ, zero, suc, T}
use mathlib.Core.List.{List, [], ◌∷◌, map, flat_map}
use Rattle.sets.specs.Lists.{◌∈◌, Each, Some}
use Rattle.sets.specs.Words.{Set, ◌⊑◌}

-- every atom of the list is in W; some is; none is
abbrev pub All : {A : Type 0} → Set A → List A → Type 0
All W l = Each (λ x. T (W x)) l

abbrev pub Any : {A : Type 0} → Set A → List A → Type 0
Any W l = Some (λ x. T (W x)) l

abbrev pub None : {A : Type 0} → Set A → List A → Type 0
None W l = Each (λ x. T (W x) → ⊥) l

-- a positive clause (2.1); with no head atom it is a constraint
pub record Rule (A : Type 0) : Type 0 where
  pub head : List A
  pub body : List A

abbrev pub Sat : {A : Type 0} → Set A → Rule A → Type 0
Sat W r = All W r.body → Any W r.head

abbrev pub Model : {A : Type 0} → Set A → List (Rule A) → Type 0
Model W Q = Each (Sat W) Q

-- "A model I is minimal if there is no model J such that J ≺ I": a model within M holds all of M.
pub record Minimal {A : Type 0} (Q : List (Rule A)) (M : Set A) : Type 0 where
  pub model : Model M Q
  pub least : (J : Set A) → J ⊑ M → Model J Q → M ⊑ J

-- ---- the operator
unfoldable pub empty : {A : Type 0} → Set A
empty x = false

abbrev pub holds : {A : Type 0} → Set A → List A → Bool
holds W [] = true
holds W (x ∷ l) = W x && holds W l

-- a decision as a test
unfoldable pub yes? : {P : Type 0} → Dec P → Bool
yes? (yes p) = true
yes? (no n) = false

module _ {A : Type 0} (d : Discrete A) where
  -- W with the atom h
  unfoldable pub add : A → Set A → Set A
  add h W x = yes? (d x h) || W x

  -- Definition 2.7: every set made of I and one head atom, chosen every way, of each clause whose body lies in I;
  -- a constraint whose body lies in I has no head atom to choose, so I gives nothing.
  unfoldable pub choices : Set A → List (Rule A) → List (Set A)
  choices I [] = I ∷ []
  choices I (r ∷ Q) = cond (holds I r.body) (flat_map (λ h. map (add h) (choices I Q)) r.head) (choices I Q)

  -- Definition 2.9: stage 0 holds only the empty set; the next stage takes each member.
  unfoldable pub stage : List (Rule A) → ℕ → List (Set A)
  stage Q zero = empty ∷ []
  stage Q (suc k) = flat_map (λ I. choices I Q) (stage Q k)

  -- two stages with the same members
  unfoldable pub Same : List (Rule A) → ℕ → ℕ → Type 0
  Same Q j k = (J : Set A) → (J ∈ stage Q j) ↔ (J ∈ stage Q k)

  -- M is minimal among the models in the stage k
  pub record MinimalIn (Q : List (Rule A)) (k : ℕ) (M : Set A) : Type 0 where
    pub member : M ∈ stage Q k
    pub model : Model M Q
    pub least : (J : Set A) → J ∈ stage Q k → Model J Q → J ⊑ M → M ⊑ J
