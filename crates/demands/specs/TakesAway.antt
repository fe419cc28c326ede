-- Document 02, U7: "For each accepted table with nothing held and each integrity constraint that the holding call takes,
-- the p-stable models once it is kept are exactly those before that satisfy the constraint." Assumes nothing.
use Rattle.program.specs.Refusals.{verdict_of}
use Rattle.std.specs.Prelude.{◌≡◌, true, ℕ, ◌≤◌, Ok}
use Rattle.sets.specs.Lists.{sift}
use Rattle.program.specs.declared.Program.{Program}
use Rattle.program.specs.Clauses.{Clause}
use Rattle.program.specs.Valid.{Sized}
use Rattle.semantics.specs.Interpretations.{satisfies}
use Rattle.held.specs.declared.HoldAnswer.{HoldAnswer}
use Rattle.held.specs.declared.ClearAnswer.{ClearAnswer}
use Rattle.held.specs.Holding.{hold_of}
use Rattle.held.specs.Clearing.{keep_of}
use Rattle.demands.specs.Demand3.{all_models}

-- U13: of a dated table the clauses count whose "first day is not after it and whose last day is not before it", f and l being the days given and d the day;
-- "On an undated table the days given are passed over", and "Clauses of undated books hold on every day"
abbrev pub OfTheDay : Program → (f l d : ℕ) → Type 0
OfTheDay p f l d = p.dated ≡ true → (f ≤ d) × (d ≤ l)

-- of the table p, of the table q that has the constraint c besides, for which the days f and l were given, and of the day d
pub record Constrained (p : Program) (c : Clause) (f l : ℕ) (q : Program) (d : ℕ) : Type 0 where
  -- "exactly those before that satisfy the constraint"
  pub of_day_lem : OfTheDay p f l d → all_models q d ≡ sift (λ w. satisfies w c) (all_models p d)
  -- U13: "a constraint that isn't of the day takes no model away"
  pub other_day : (OfTheDay p f l d → ⊥) → all_models q d ≡ all_models p d

-- of every two calls that meet their contracts, a hold that takes a clause whose head is empty and a keep of the table that it gave, and of every day
-- (hold takes none where the table is not accepted, by 9, or holds one, by 16; `Sized` is what a table's type gives)
abbrev pub TakesAway : Type 0
TakesAway =
    (p : Program) → Sized p → (c : Clause) → c.head ≡ 0 → (f l : ℕ)
    → (h : HoldAnswer) → h ≡ hold_of p c f l → verdict_of h.status ≡ Ok tt
    → (k : ClearAnswer) → k ≡ keep_of h.program
    → (d : ℕ) → Constrained p c f l k.program d
