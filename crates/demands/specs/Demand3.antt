-- Demand 3: "One claim about any two runs over one table, by whichever route: the shorter list is the first part of the longer,
-- what is listed is the lowest p-stable models, rising, each once; complete says all, and exactly when document 01 says;
-- outcome, refusal, list and nodes visited are document 01's."
-- Document 02, U13: the properties "speak .. about the clauses of the day and compare runs for one day"; d is the day of every run here. Assumes nothing.
use Rattle.program.specs.declared.Refusal.TheVariants.{InvalidProgram, TooManyMembers, TooLittleRoom}
use Rattle.program.specs.declared.Refusal.{Refusal}
use Rattle.std.specs.Prelude.{◌≡◌, ◌↔◌, ◌⊎◌, true, false, List, [], ℕ, ◌*◌, ◌^◌, ◌≤◌, ◌<◌, min, length, take, drop, Result, Ok, Err}
use Rattle.sets.specs.Lists.{◌∈◌, Rising, Begins}
use Rattle.sets.specs.Words.{◌⊑◌, bit}
use Rattle.program.specs.declared.Program.{Program}
use Rattle.program.specs.Days.{clauses}
use Rattle.program.specs.Valid.{valid}
use Rattle.semantics.specs.Definitions.{PStable}
use Rattle.semantics.specs.Interpretations.{rules_of, models}
use Rattle.operator.specs.Operator.{stage}
use Rattle.stages.specs.Run.{ending, EndsRun}
use Rattle.program.specs.declared.Outcome.{Outcome}
use Rattle.program.specs.declared.Outcome.TheVariants.{Complete, Full, Spent}
use Rattle.tree.specs.Tree.{hits}
use Rattle.tree.specs.Answer.{SearchAnswer, nodes_of, leaf_of, Searches}
use Rattle.tree.specs.Answer as search
use Rattle.vocabulary.specs.Vocabulary.{vocabulary}
use Rattle.fix_answer.specs.Answer.{FixpointAnswer, transform_of, room_of, Fixes}
use Rattle.fix_answer.specs.Answer as fixpoint

-- ---- a run
-- "A run is one call that lists p-stable models, refused or not: by the search with any allowance and any lent list,
-- or by the fixpoint with any lent list and any two working slices."
pub data Run : Type 0 where
  searched : ℕ → List ℕ → Run
  fixed : List ℕ → List ℕ → List ℕ → Run

-- the list that is lent
unfoldable pub lent : Run → List ℕ
lent (searched A l) = l
lent (fixed l w v) = l

-- what a run answers, and the lent list at its exit: the very functions that the contracts of the two calls are stated by
unfoldable pub outcome : Program → ℕ → Run → Result Outcome Refusal
outcome p d (searched A l) = (search.answer_of p d A l).outcome
outcome p d (fixed l w v) = (fixpoint.answer_of p d l w v).outcome

unfoldable pub written : Program → ℕ → Run → ℕ
written p d (searched A l) = (search.answer_of p d A l).written
written p d (fixed l w v) = (fixpoint.answer_of p d l w v).written

unfoldable pub exit : Program → ℕ → Run → List ℕ
exit p d (searched A l) = search.exit_of p d A l
exit p d (fixed l w v) = fixpoint.exit_of p d l w v

-- the nodes that a search visited; a fixpoint visits none
unfoldable pub visited : Program → ℕ → Run → ℕ
visited p d (searched A l) = (search.answer_of p d A l).visited
visited p d (fixed l w v) = 0

-- "What a run lists is the words it wrote from the start of its lent list, as many as its answer counts as written"
unfoldable pub listed : Program → ℕ → Run → List ℕ
listed p d r = take (written p d r) (exit p d r)

-- ---- the models
-- the list of all p-stable models of the table on the day
abbrev pub all_models : Program → ℕ → List ℕ
all_models p d = models p.atom_count (clauses p d)

-- it is what its name says: rising, so that each stands in it once, and of just the words over the names that Definition 3.1 calls p-stable
pub record AllModels (p : Program) (d : ℕ) : Type 0 where
  pub rising : Rising (all_models p d)
  pub exactly : (w : ℕ) → (w ∈ all_models p d) ↔ ((w < 2 ^ (2 * p.atom_count)) × PStable (rules_of (clauses p d)) (bit w))

-- ---- a run by search, of an accepted table
-- "Let N be the number of all nodes."; document 02, U3: "N counts the smaller tree"
abbrev pub N : Program → ℕ → ℕ
N p d = length (nodes_of p d)

-- the p-stable leaves among the first A nodes
abbrev pub leaves_in : Program → ℕ → ℕ → List ℕ
leaves_in p d A = hits (leaf_of p d) (take A (nodes_of p d))

pub record BySearch (p : Program) (d : ℕ) (A : ℕ) (l : List ℕ) : Type 0 where
  -- "if among the first A nodes one is p-stable and the list is full already, .. full"
  pub full : (outcome p d (searched A l) ≡ Ok Full) ↔ (length l < length (leaves_in p d A))
  -- "Else if A < N it is spent"
  pub spent : (outcome p d (searched A l) ≡ Ok Spent) ↔ ((length (leaves_in p d A) ≤ length l) × (A < N p d))
  -- "Else it is complete": the allowance reaches N, and the list has a place for every p-stable model
  pub complete : (outcome p d (searched A l) ≡ Ok Complete) ↔ ((N p d ≤ A) × (length (all_models p d) ≤ length l))
  -- "the search [meets] 9", and nothing else
  pub never_refused : (r : Refusal) → outcome p d (searched A l) ≡ Err r → ⊥
  pub writes : written p d (searched A l) ≡ min (length l) (length (leaves_in p d A))
  -- "the first such node ends the run as full and is counted": with it one p-stable leaf too many was visited, and not before
  pub visits_full : outcome p d (searched A l) ≡ Ok Full
      → (length l < length (leaves_in p d (visited p d (searched A l)))) × ((m : ℕ) → m < visited p d (searched A l) → length (leaves_in p d m) ≤ length l)
  -- "spent, with A nodes visited"; "complete, with N visited"
  pub visits_spent : outcome p d (searched A l) ≡ Ok Spent → visited p d (searched A l) ≡ A
  pub visits_complete : outcome p d (searched A l) ≡ Ok Complete → visited p d (searched A l) ≡ N p d

-- ---- a run by fixpoint, of an accepted table
-- "Some stage, up to the one that ends the run, has more members than the working room."
abbrev pub Crowded : Program → ℕ → ℕ → Type 0
Crowded p d room = (k : ℕ) × (k ≤ ending (transform_of p d)) × (room < length (stage (transform_of p d) k))

pub record ByFixpoint (p : Program) (d : ℕ) (l w v : List ℕ) : Type 0 where
  -- "The run ends at the first stage equal to the one before", and that stage is the one that `ending` names
  pub ends : vocabulary p d ≤ 64 → EndsRun (transform_of p d) (vocabulary p d) (ending (transform_of p d))
  -- 11: "W exceeds 64"
  pub eleven : (outcome p d (fixed l w v) ≡ Err TooManyMembers) ↔ (64 < vocabulary p d)
  -- 12, "of several that apply, the lowest is given"
  pub twelve : (outcome p d (fixed l w v) ≡ Err TooLittleRoom) ↔ ((vocabulary p d ≤ 64) × Crowded p d (room_of w v))
  pub no_other : (r : Refusal) → outcome p d (fixed l w v) ≡ Err r → (r ≡ TooManyMembers) ⊎ (r ≡ TooLittleRoom)
  -- "Outcome: complete, or full if the list is too short for them all"
  pub full : (outcome p d (fixed l w v) ≡ Ok Full) ↔ ((vocabulary p d ≤ 64) × (Crowded p d (room_of w v) → ⊥) × (length l < length (all_models p d)))
  pub complete : (outcome p d (fixed l w v) ≡ Ok Complete) ↔ ((vocabulary p d ≤ 64) × (Crowded p d (room_of w v) → ⊥) × (length (all_models p d) ≤ length l))
  pub never_spent : outcome p d (fixed l w v) ≡ Ok Spent → ⊥
  -- "as many as fit"; "counts are 0" where refused
  pub writes : ((r : Refusal) → outcome p d (fixed l w v) ≡ Err r → ⊥) → written p d (fixed l w v) ≡ min (length l) (length (all_models p d))
  pub writes_none : (r : Refusal) → outcome p d (fixed l w v) ≡ Err r → written p d (fixed l w v) ≡ 0

-- what document 01 says of the route that a run goes
unfoldable pub ByRoute : Program → ℕ → Run → Type 0
ByRoute p d (searched A l) = BySearch p d A l
ByRoute p d (fixed l w v) = ByFixpoint p d l w v

-- ---- what one run lists
pub record OneRun (p : Program) (d : ℕ) (r : Run) : Type 0 where
  -- "what is listed is the lowest p-stable models, rising, each once": the first of all models, as many as are counted
  pub lowest : listed p d r ≡ take (written p d r) (all_models p d)
  pub counted : length (listed p d r) ≡ written p d r
  pub rising : Rising (listed p d r)
  -- document 02, U7: "no model in a list lies within another"
  pub none_within : (v w : ℕ) → v ∈ listed p d r → w ∈ listed p d r → bit v ⊑ bit w → v ≡ w
  -- "complete says all"
  pub complete_all : outcome p d r ≡ Ok Complete → listed p d r ≡ all_models p d
  -- "List places beyond those written keep their content.", and the list keeps its length
  pub behind : drop (written p d r) (exit p d r) ≡ drop (written p d r) (lent r)
  pub places : length (exit p d r) ≡ length (lent r)
  -- "A table is accepted when refusal 9 does not apply to it."; "a refused run lists none", and "counts are 0"
  pub nine : (outcome p d r ≡ Err InvalidProgram) ↔ (valid p ≡ false)
  pub refused : (q : Refusal) → outcome p d r ≡ Err q → (listed p d r ≡ []) × (visited p d r ≡ 0)
  -- "outcome, refusal, list and nodes visited are document 01's"
  pub by_route : valid p ≡ true → ByRoute p d r

-- ---- demand 3, one claim about any two runs over one table, by whichever route each goes
pub record TwoRuns (p : Program) (d : ℕ) (r s : Run) : Type 0 where
  -- "the shorter list is the first part of the longer"; two that list equally many list the same
  pub shorter : length (listed p d r) ≤ length (listed p d s) → Begins (listed p d r) (listed p d s)
  pub longer : length (listed p d s) ≤ length (listed p d r) → Begins (listed p d s) (listed p d r)
  pub equal : length (listed p d r) ≡ length (listed p d s) → listed p d r ≡ listed p d s
  pub the_models : AllModels p d
  pub first : OneRun p d r
  pub second : OneRun p d s

-- ---- that this is about the code: what the contract of a call promises is what its run answers and leaves
pub record Ran (p : Program) (d : ℕ) (r : Run) (o : Result Outcome Refusal) (n : ℕ) (left : List ℕ) : Type 0 where
  pub outcome_is : o ≡ outcome p d r
  pub written_is : n ≡ written p d r
  pub exit_is : left ≡ exit p d r

pub record Demand3 : Type 0 where
  pub two_runs : (p : Program) (d : ℕ) (r s : Run) → TwoRuns p d r s
  pub by_search : {p : Program} {d A : ℕ} {l l' : List ℕ} {a : SearchAnswer} → Searches p d A l a l'
      → Ran p d (searched A l) a.outcome a.written l' × (a.visited ≡ visited p d (searched A l))
  pub by_fixpoint : {p : Program} {d : ℕ} {l w v l' w' v' : List ℕ} {a : FixpointAnswer} → Fixes p d l w v a l' w' v' → Ran p d (fixed l w v) a.outcome a.written l'
