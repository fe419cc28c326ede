-- Demand 3 of any two runs over one table. Assumes nothing.
use Rattle.program.specs.declared.Refusal.TheVariants.{InvalidProgram, TooManyMembers, TooLittleRoom}
use Rattle.program.specs.declared.Refusal.{Refusal}
use Rattle.std.specs.Prelude.{Ok, Err}
use mathlib.Core.Path.{◌≡◌, refl, sym, ap, ◌∙◌}
use mathlib.Core.Bool.{false}
use mathlib.Core.Logic.{◌⊎◌, ⊎_elim}
use mathlib.Core.List.{List, []}
use Prim.Native.Nat.{ℕ}
use native.Mathlib.Omega.{arith}
use lib.ListN.{length, take}
use lib.Seq.{take_all}
use Rattle.sets.specs.Lists.{◌∈◌, Rising, Begins}
use Rattle.sets.specs.Words.{◌⊑◌, bit}
use Rattle.sets.proofs.Tests.{dec}
use Rattle.sets.proofs.Rising.{begins_both, begins_same, begins_in, begins_rising}
use Rattle.sets.proofs.Digits.{bits_ext}
use Rattle.program.specs.declared.Program.{Program}
use Rattle.program.specs.Days.{clauses}
use Rattle.program.specs.Valid.{valid}
use Rattle.semantics.specs.Definitions.{PStable}
use Rattle.semantics.specs.Interpretations.{rules_of}
use Rattle.semantics.proofs.Within.{antichain}
use Rattle.stable.proofs.Decides as decides
use Rattle.program.specs.declared.Outcome.TheVariants.{Complete}
use Rattle.tree.specs.Answer.{listed as search_listed}
use Rattle.tree.proofs.Runs as searches
use Rattle.fix_answer.specs.Answer.{refused as fixed_refused}
use Rattle.demands.specs.Demand3.{Run, searched, fixed, lent, outcome, written, exit, visited, listed, all_models, AllModels, ByRoute, OneRun, TwoRuns, Demand3}
use Rattle.demands.proofs.Outcomes.{refused-complete}
use Rattle.demands.proofs.Searching as searching
use Rattle.demands.proofs.Fixing as fixing

every_model : (p : Program) (d : ℕ) → AllModels p d
every_model p d = record { rising = decides.rising p.atom_count (clauses p d); exactly = decides.listed p.atom_count (clauses p d) }

-- the first of all models, as many as are counted
begins : (p : Program) (d : ℕ) (r : Run) → listed p d r ≡ take (written p d r) (all_models p d) → length (listed p d r) ≡ written p d r → Begins (listed p d r) (all_models p d)
unfolding Begins
begins p d r e n = ap (λ (k : ℕ). take k (all_models p d)) n ∙ sym e

rises : (p : Program) (d : ℕ) (r : Run) → listed p d r ≡ take (written p d r) (all_models p d) → length (listed p d r) ≡ written p d r → Rising (listed p d r)
rises p d r e n = begins_rising (listed p d r) (all_models p d) (begins p d r e n) (every_model p d).rising

-- of two of these neither lies within the other
parted : (p : Program) (d : ℕ) (r : Run) → listed p d r ≡ take (written p d r) (all_models p d) → length (listed p d r) ≡ written p d r
    → (v w : ℕ) → v ∈ listed p d r → w ∈ listed p d r → bit v ⊑ bit w → v ≡ w
parted p d r e n v w a b h = bits_ext v w h (antichain (rules_of (clauses p d)) (bit v) (bit w) (stable v a) (stable w b) h)
  where
    stable : (x : ℕ) → x ∈ listed p d r → PStable (rules_of (clauses p d)) (bit x)
    stable x m = (((every_model p d).exactly x).0 (begins_in (listed p d r) (all_models p d) (begins p d r e n) x m)).1

-- ---- a run by search
module _ (p : Program) (d : ℕ) (A : ℕ) (l : List ℕ) where
  search-nine : valid p ≡ false → outcome p d (searched A l) ≡ Err InvalidProgram
  unfolding outcome
  search-nine f = ap (λ a. a.outcome) (searches.refused p d A l f).0

  search-lowest : listed p d (searched A l) ≡ take (written p d (searched A l)) (all_models p d)
  unfolding listed written exit search_listed Begins
  search-lowest = sym (searches.lists-lowest p d A l) ∙ ap (λ (k : ℕ). take k (all_models p d)) (searching.counted p d A l)

  search_all : outcome p d (searched A l) ≡ Ok Complete → listed p d (searched A l) ≡ all_models p d
  search_all e = ⊎_elim
      (λ v.
      let s = searching.by_search p d v A l in
      let c = s.complete.0 e in
      search-lowest ∙ take_all (written p d (searched A l)) (all_models p d) (omega (arith, c.1, s.writes, searching.all_leaves p d v A l c.0)))
      (λ f. refused-complete (search-nine f) e)
      (dec (valid p))

  search_run : OneRun p d (searched A l)
  unfolding outcome written exit listed visited lent search_listed ByRoute
  search_run = record {
    lowest = search-lowest;
    counted = searching.counted p d A l;
    rising = rises p d (searched A l) search-lowest (searching.counted p d A l);
    none_within = parted p d (searched A l) search-lowest (searching.counted p d A l);
    complete_all = search_all;
    behind = searches.keeps_rest p d A l;
    places = searches.same-places p d A l;
    nine = (λ e. ⊎_elim (λ v. absurd ((searching.by_search p d v A l).never_refused InvalidProgram e)) (λ f. f) (dec (valid p)), search-nine);
    refused = λ n e. ⊎_elim
        (λ v. absurd ((searching.by_search p d v A l).never_refused n e))
        (λ f. (searches.listed_none p d A l f, ap (λ a. a.visited) (searches.refused p d A l f).0))
        (dec (valid p));
    by_route = λ v. searching.by_search p d v A l;
  }

-- ---- a run by fixpoint
module _ (p : Program) (d : ℕ) (l w v : List ℕ) where
  fix_lowest : listed p d (fixed l w v) ≡ take (written p d (fixed l w v)) (all_models p d)
  unfolding listed written exit
  fix_lowest = fixing.leaves_first (fixing.left p d l w v)

  fix_counted : length (listed p d (fixed l w v)) ≡ written p d (fixed l w v)
  unfolding listed written exit
  fix_counted = fixing.leaves_count (fixing.left p d l w v)

  -- a table that is not accepted is refused by 9
  nine_is : valid p ≡ false → (outcome p d (fixed l w v) ≡ Err InvalidProgram) × (written p d (fixed l w v) ≡ 0)
  unfolding outcome written fixed_refused
  nine_is f = let e = fixing.refused-nine p d l w v f in (ap (λ a. a.outcome) e, ap (λ a. a.written) e)

  fix_all : outcome p d (fixed l w v) ≡ Ok Complete → listed p d (fixed l w v) ≡ all_models p d
  fix_all e = ⊎_elim
      (λ t.
      let f = fixing.by_fixpoint p d l w v t in
      let m = (f.complete.0 e).2 in
      let n = f.writes (λ k i. refused-complete i e) in
      fix_lowest ∙ take_all (written p d (fixed l w v)) (all_models p d) (omega arith))
      (λ f. refused-complete (nine_is f).0 e)
      (dec (valid p))

  fix_none : (r : Refusal) → outcome p d (fixed l w v) ≡ Err r → listed p d (fixed l w v) ≡ []
  fix_none n e = fix_lowest ∙ ap (λ (k : ℕ). take k (all_models p d)) (⊎_elim (λ t. (fixing.by_fixpoint p d l w v t).writes_none n e) (λ f. (nine_is f).1) (dec (valid p)))

  fix_nine : outcome p d (fixed l w v) ≡ Err InvalidProgram → valid p ≡ false
  fix_nine e = ⊎_elim
      (λ t. ⊎_elim (λ (i : InvalidProgram ≡ TooManyMembers). cc) (λ (i : InvalidProgram ≡ TooLittleRoom). cc) ((fixing.by_fixpoint p d l w v t).no_other InvalidProgram e))
      (λ f. f)
      (dec (valid p))

  fix_run : OneRun p d (fixed l w v)
  unfolding lent written exit visited ByRoute
  fix_run = record {
    lowest = fix_lowest;
    counted = fix_counted;
    rising = rises p d (fixed l w v) fix_lowest fix_counted;
    none_within = parted p d (fixed l w v) fix_lowest fix_counted;
    complete_all = fix_all;
    behind = fixing.leaves_rest (fixing.left p d l w v);
    places = fixing.leaves_length (fixing.left p d l w v);
    nine = (fix_nine, λ f. (nine_is f).0);
    refused = λ n e. (fix_none n e, refl);
    by_route = fixing.by_fixpoint p d l w v;
  }

-- ---- any two
one_run : (p : Program) (d : ℕ) (r : Run) → OneRun p d r
one_run p d (searched A l) = search_run p d A l
one_run p d (fixed l w v) = fix_run p d l w v

two_runs : (p : Program) (d : ℕ) (r s : Run) → TwoRuns p d r s
two_runs p d r s =
    let a = one_run p d r in
    let b = one_run p d s in
    let x = begins p d r a.lowest a.counted in
    let y = begins p d s b.lowest b.counted in
    record {
      shorter = λ h. begins_both (listed p d r) (listed p d s) (all_models p d) x y h;
      longer = λ h. begins_both (listed p d s) (listed p d r) (all_models p d) y x h;
      equal = λ e. begins_same (listed p d r) (listed p d s) (all_models p d) x y e;
      the_models = every_model p d;
      first = a;
      second = b;
    }

-- Demand 3.
pub demand_3 : Demand3
unfolding outcome written exit visited
demand_3 = record {
  two_runs = two_runs;
  by_search = λ c. (record { outcome_is = ap (λ a. a.outcome) c.says; written_is = ap (λ a. a.written) c.says; exit_is = c.lists }, ap (λ a. a.visited) c.says);
  by_fixpoint = λ c. record { outcome_is = ap (λ a. a.outcome) c.says; written_is = ap (λ a. a.written) c.says; exit_is = c.lists };
}
