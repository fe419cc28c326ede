-- What an integrity constraint, a clause with an empty head, takes away from the p-stable models. Assumes nothing.
use mathlib.Core.Path.{refl}
use mathlib.Core.Logic.{◌↔◌, ◌⊎◌, inl, inr}
use mathlib.Core.List.{List, [], ◌∷◌, ◌++◌}
use Prim.Native.Nat.{ℕ}
use lib.Dec.{T}
use Rattle.sets.specs.Lists.{◌∈◌}
use Rattle.sets.specs.Words.{Set, ◌⊑◌}
use Rattle.sets.proofs.Lists.{in-++, in-++-l, in-++-r}
use Rattle.semantics.specs.Definitions.{Rule, Body, Satisfies, Model, positive, Reduct, PStable}
use Rattle.semantics.proofs.FourValues.{holds-member, not_absent}

-- a set that satisfies a clause with an empty head does not satisfy its body
shut : (I : Set ℕ) (c : Rule) → ((L : ℕ) → T (c.head L) → ⊥) → Satisfies I c → Body I c → ⊥
shut I c no_head (inl h) b = no_head h.0 h.1
shut I c no_head (inr n) b = n b

module _ (P : List Rule) (c : Rule) (no_head : (L : ℕ) → T (c.head L) → ⊥) (I : Set ℕ) where
  abbrev with : List Rule
  with = P ++ (c ∷ [])

  -- where I does not satisfy the body, no set within I satisfies what the reduct by I keeps of it
  within_shut : (Body I c → ⊥) → (J : Set ℕ) → J ⊑ I → ((L : ℕ) → T (c.naf L) → T (I L) → ⊥) → Satisfies J (positive c)
  within_shut n J h a = inr (λ b. n (λ L t. (holds-member I L).1 (h L ((holds-member J L).0 (b.0 L t))), λ L t. (not_absent I L).1 (a L t)))

  -- so such a set is a model of the reduct with the constraint where it is one without it, and only there
  model_with : (Body I c → ⊥) → (J : Set ℕ) → J ⊑ I → Model J (Reduct P I) → Model J (Reduct with I)
  model_with n J h f r m = go (in-++ m.0 P (c ∷ []) m.1)
    where
      go : (m.0 ∈ P) ⊎ (m.0 ∈ (c ∷ [])) → Satisfies J r
      go (inl i) = f r (m.0, i, m.2, m.3)
      go (inr (inl e)) = rw (m.2, e) (within_shut n J h (rw e at m.3))
      go (inr (inr x)) = absurd x

  model-without : (J : Set ℕ) → Model J (Reduct with I) → Model J (Reduct P I)
  model-without J f r m = f r (m.0, in-++-l m.0 P (c ∷ []) m.1, m.2, m.3)

  -- where I is a model of its own reduct with the constraint, it does not satisfy the body
  model_shut : Model I (Reduct with I) → Body I c → ⊥
  model_shut f b = shut I (positive c) no_head (f (positive c) (c, in-++-r c P (c ∷ []) (inl refl), refl, λ L t. (not_absent I L).0 (b.1 L t))) (b.0, λ L t. absurd t)

  -- the p-stable models with the constraint are those without it that satisfy it
  pub constraint_exactly : PStable with I ↔ (PStable P I × Satisfies I c)
  constraint_exactly = (
    λ s. let n = model_shut s.model in
        (record { model = model-without I s.model; minimal = λ J h f. s.minimal J h (model_with n J h f) }, inr n),
    λ s. record { model = model_with (shut I c no_head s.1) I (λ x t. t) s.0.model; minimal = λ J h f. s.0.minimal J h (model-without J f) },
  )
