-- A constraint that is kept takes away just the models that do not satisfy it. Assumes nothing.
use Rattle.program.specs.Refusals.{verdict_of}
use mathlib.Core.Path.{◌≡◌, sym, ap, ap₂, ◌∙◌, subst}
use mathlib.Core.Bool.{Bool, true, false}
use mathlib.Core.Logic.{◌↔◌, ⊎_elim}
use mathlib.Core.List.{List, [], ◌∷◌, ◌++◌, map-append}
use Prim.Native.Nat.{ℕ}
use lib.Dec.{T}
use Rattle.sets.specs.Lists.{◌∈◌, sift}
use Rattle.sets.specs.Words.{bit}
use Rattle.sets.proofs.Tests.{dec}
use Rattle.sets.proofs.Lists.{sift_in, sift_out}
use Rattle.sets.proofs.Rising.{rising_ext, sift-rising}
use Rattle.sets.proofs.Digits.{bit_zero}
use Rattle.program.specs.declared.Program.{Program}
use Rattle.program.specs.Clauses.{Clause, rows}
use Rattle.program.specs.Days.{is_of_day, of_day, clauses}
use Rattle.program.proofs.Days.{in_days, clauses_more, clauses_as_before}
use Rattle.semantics.specs.Definitions.{Satisfies, PStable}
use Rattle.semantics.specs.Interpretations.{rule_of, rules_of, satisfies, models}
use Rattle.semantics.proofs.Constraints.{constraint_exactly}
use Rattle.stable.proofs.Readings.{satisfies_Satisfies, Satisfies_satisfies}
use Rattle.stable.proofs.Decides.{listed, rising}
use Rattle.held.specs.declared.HoldAnswer.{HoldAnswer}
use Rattle.held.specs.declared.ClearAnswer.{ClearAnswer}
use Rattle.held.specs.Holding.{day_held, held_as, hold_of}
use Rattle.held.specs.Clearing.{keep_of}
use Rattle.held.proofs.Laws.{hold_zero}
use Rattle.held.proofs.Facts.{hold_then_keep}
use Rattle.demands.specs.TakesAway.{OfTheDay, Constrained, TakesAway}

-- ---- over words
module _ (n : ℕ) (P : List Clause) (c : Clause) (e : c.head ≡ 0) where
  abbrev with : List Clause
  with = P ++ (c ∷ [])

  abbrev passes : ℕ → Bool
  passes w = satisfies w c

  no_head : (L : ℕ) → T (bit c.head L) → ⊥
  no_head L t = subst T (ap (λ (h : ℕ). bit h L) e ∙ bit_zero L) t

  word_exactly : (w : ℕ) → PStable (rules_of with) (bit w) ↔ (PStable (rules_of P) (bit w) × Satisfies (bit w) (rule_of c))
  word_exactly w = rw (map-append rule_of P (c ∷ [])) (constraint_exactly (rules_of P) (rule_of c) no_head (bit w))

  stays : (w : ℕ) → w ∈ models n with → w ∈ sift passes (models n P)
  stays w m =
      let s = (listed n with w).0 m in
      let t = (word_exactly w).0 s.1 in
      sift_in passes (models n P) w ((listed n P w).1 (s.0, t.0)) (Satisfies_satisfies w c t.1)

  stayed : (w : ℕ) → w ∈ sift passes (models n P) → w ∈ models n with
  stayed w m =
      let s = sift_out passes (models n P) w m in
      let t = (listed n P w).0 s.0 in
      (listed n with w).1 (t.0, (word_exactly w).1 (t.1, satisfies_Satisfies w c s.1))

  models_with : models n with ≡ sift passes (models n P)
  models_with = rising_ext (models n with) (sift passes (models n P)) (rising n with) (sift-rising passes (models n P) (rising n P)) stays stayed

-- ---- whether the row that is held is of the day, by the days given
module _ (p : Program) (c : Clause) (f l d : ℕ) where
  given_days : p.dated ≡ true → (day_held p f ≡ f) × (day_held p l ≡ l)
  unfolding day_held
  given_days t = (rw t, rw t)

  held-of_day : OfTheDay p f l d → of_day p d (held_as p c f l) ≡ true
  unfolding is_of_day
  held-of_day h = ⊎_elim
      (λ t. let g = given_days t in (in_days p d t (held_as p c f l)).1 (rw (g.0, g.1) (h t)))
      (λ u. rw u)
      (dec p.dated)

  held-other_day : (OfTheDay p f l d → ⊥) → of_day p d (held_as p c f l) ≡ false
  held-other_day n = ⊎_elim
      (λ o. absurd (n (λ t. let g = given_days t in rw (g.0, g.1) at ((in_days p d t (held_as p c f l)).0 o))))
      (λ o. o)
      (dec (of_day p d (held_as p c f l)))

-- ---- the table in which it was kept
module _ (p : Program) (c : Clause) (e : c.head ≡ 0) (f l : ℕ) (q : Program) where
  by_rows : q.atom_count ≡ p.atom_count → q.dated ≡ p.dated → rows q ≡ rows p ++ (held_as p c f l ∷ []) → (d : ℕ) → Constrained p c f l q d
  by_rows a g m d = record {
    of_day_lem = λ h. ap₂ models a (clauses_more p q (held_as p c f l) g m d (held-of_day p c f l d h)) ∙ models_with p.atom_count (clauses p d) c e;
    other_day = λ n. ap₂ models a (clauses_as_before p q (held_as p c f l) g m d (held-other_day p c f l d n));
  }

-- Document 02, U7: what a constraint takes away.
pub takes_away : TakesAway
takes_away p s c e f l h x t k y d =
    let taken = hold_zero p c f l (sym (ap (λ (a : HoldAnswer). verdict_of a.status) x) ∙ t) in
    let behind = hold_then_keep p c f l taken s in
    let kept = y ∙ ap (λ (a : HoldAnswer). keep_of a.program) x in
    subst (λ (a : ClearAnswer). Constrained p c f l a.program d) (sym kept)
    (by_rows p c e f l (keep_of (hold_of p c f l).program).program behind.atoms behind.dating behind.all_rows d)
