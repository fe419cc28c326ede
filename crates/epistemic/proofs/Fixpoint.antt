-- The p-stable models are the literal parts of the canonical minimal ones among the models in the fixpoint.
use mathlib.Core.Path.{◌≡◌, subst}
use mathlib.Core.Logic.{⊎_elim, ◌↔◌}
use mathlib.Core.List.{List, []}
use Prim.Native.Nat.{ℕ, suc}
use native.Mathlib.Nat.{le_refl}
use lib.ListN.{length}
use lib.Dec.{T}
use Rattle.epistemic.proofs.Decisions.{Atom_discrete}
use Rattle.epistemic.proofs.Shrinking.{theorem_kappa}
use Rattle.epistemic.proofs.Stages.{answers, stages_end, fixpoint-minimal}
use Rattle.epistemic.specs.Positive.{All, Rule, Model, Minimal, choices, Same, MinimalIn}
use Rattle.epistemic.specs.Transform.{Tagged, Stable, Atom, kappa, Canonical, lits}
use Rattle.sets.proofs.Lists.{in_flat_map}
use Rattle.sets.proofs.Tests.{T?}
use Rattle.sets.specs.Lists.{◌∈◌}
use Rattle.sets.specs.Words.{Set, ◌⊑◌}
use mathlib.Core.List.{flat_map}

-- ---- the fixpoint

-- the head atoms of a program
pub atoms : {A : Type 0} → List (Rule A) → List A
atoms Q = flat_map (λ r. r.head) Q

pub heads_in : {A : Type 0} (Q : List (Rule A)) (r : Rule A) → r ∈ Q → (x : A) → x ∈ r.head → x ∈ atoms Q
unfolding atoms
heads_in Q r m x i = in_flat_map (λ r. r.head) r x Q m i

-- there is a stage that equals the next
pub fixpoint_exists : (P : List Tagged) → Same Atom_discrete (kappa P) (suc (length (atoms (kappa P)))) (suc (suc (length (atoms (kappa P)))))
fixpoint_exists P = stages_end Atom_discrete (kappa P) (atoms (kappa P)) (heads_in (kappa P)) (suc (length (atoms (kappa P)))) (le_refl _)

-- T5: at any stage j that equals the next
pub theorem_fixpoint : (P : List Tagged) (j : ℕ) → Same Atom_discrete (kappa P) j (suc j) → (I : Set ℕ)
    → Stable P I ↔ ((M : Set Atom) × MinimalIn Atom_discrete (kappa P) j M × Canonical M × (lits M ≡ I))
theorem_fixpoint P j h I = (
  λ s. let r = (theorem_kappa P I).0 s in (r.0, (same r.0).0 r.1, r.2, r.3),
  λ r. (theorem_kappa P I).1 (r.0, (same r.0).1 r.1, r.2, r.3),
)
  where
    same : (M : Set Atom) → Minimal (kappa P) M ↔ MinimalIn Atom_discrete (kappa P) j M
    same = fixpoint-minimal Atom_discrete (kappa P) (atoms (kappa P)) (heads_in (kappa P)) j h

-- ---- the definitions, in the words of the paper

-- minimal: no proper subset is a model
pub minimal_iff : {A : Type 0} (Q : List (Rule A)) (M : Set A)
    → Minimal Q M ↔ (Model M Q × ((J : Set A) → J ⊑ M → Model J Q → (x : A) → T (M x) → (T (J x) → ⊥) → ⊥))
minimal_iff Q M = (λ h. (h.model, λ J s g x t f. f (h.least J s g x t)), λ h. record { model = h.0; least = λ J s g x t. ⊎_elim (λ u. u) (λ f. absurd (h.1 J s g x t f)) (T? (J x)) })

-- a constraint whose body is in I leaves no choice
pub constraint_stops : {A : Type 0} (d : Discrete A) (I J : Set A) (Q : List (Rule A)) (r : Rule A) → r ∈ Q → r.head ≡ [] → All I r.body → J ∈ choices d I Q → ⊥
constraint_stops d I J Q r m e a i = let s = answers d I Q J i r m a in subst (λ l. s.0 ∈ l) e s.1
