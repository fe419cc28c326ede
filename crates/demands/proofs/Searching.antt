-- How a search of an accepted table ends: full, spent or complete, and what is so of each. Assumes nothing.
use Rattle.std.specs.Prelude.{Ok, Err}
use mathlib.Core.Path.{◌≡◌, sym, ap, ◌∙◌}
use mathlib.Core.Bool.{true}
use mathlib.Core.Logic.{◌⊎◌, ⊎_elim}
use mathlib.Core.List.{List}
use Prim.Native.Nat.{ℕ, ◌≤◌}
use native.Mathlib.Omega.{arith}
use lib.ListN.{length, take}
use lib.Seq.{take_all}
use Rattle.sets.proofs.Tests.{dec}
use Rattle.program.specs.declared.Program.{Program}
use Rattle.program.specs.Valid.{valid}
use Rattle.program.specs.declared.Outcome.TheVariants.{Complete, Full, Spent}
use Rattle.tree.specs.Tree.{hits}
use Rattle.tree.specs.Answer.{nodes_of, leaf_of, full_at, answer_of, exit_of, listed}
use Rattle.tree.proofs.Ends.{Ended, ends-full, ends-spent, ends-complete, not_before, comes, ended}
use Rattle.tree.proofs.Runs as runs
use Rattle.demands.specs.Demand3.{outcome, written, visited, all_models, leaves_in, N, BySearch}
use Rattle.demands.proofs.Outcomes.{full-spent, full-complete, spent-complete, refused_full, refused-spent, refused-complete}

module _ (p : Program) (d : ℕ) (v : valid p ≡ true) (A : ℕ) (l : List ℕ) where
  -- an allowance of N reaches every p-stable leaf
  pub all_leaves : N p d ≤ A → length (leaves_in p d A) ≡ length (all_models p d)
  all_leaves h = ap (λ xs. length (hits (leaf_of p d) xs)) (take_all A (nodes_of p d) h) ∙ ap length (runs.leaves_of p d)

  by_way : Ended (length l) (length (leaves_in p d A)) A (N p d) (full_at (leaf_of p d) (nodes_of p d) (length l)) (answer_of p d A l) → BySearch p d A l
  unfolding outcome written visited
  by_way (ends-full h q) =
      let o : (answer_of p d A l).outcome ≡ Ok Full = ap (λ a. a.outcome) q in
      let c : (answer_of p d A l).visited ≡ full_at (leaf_of p d) (nodes_of p d) (length l) = ap (λ a. a.visited) q in
      record {
        full = (λ e. h, λ k. o);
        spent = (λ e. full-spent o e, λ k. absurd (omega (arith, k.0)));
        complete = (λ e. full-complete o e, λ k. absurd (omega (arith, k.1, all_leaves k.0)));
        never_refused = λ n e. refused_full e o;
        writes = ap (λ a. a.written) q ∙ omega arith;
        visits_full = λ e. (rw c (comes (leaf_of p d) (nodes_of p d) (length l) A h), λ m i. not_before (leaf_of p d) (nodes_of p d) (length l) m (rw c at i));
        visits_spent = λ e. full-spent o e;
        visits_complete = λ e. full-complete o e;
      }
  by_way (ends-spent h k q) =
      let o : (answer_of p d A l).outcome ≡ Ok Spent = ap (λ a. a.outcome) q in
      record {
        full = (λ e. full-spent e o, λ i. absurd (omega arith));
        spent = (λ e. (h, k), λ i. o);
        complete = (λ e. spent-complete o e, λ i. absurd (omega (arith, i.0)));
        never_refused = λ n e. refused-spent e o;
        writes = ap (λ a. a.written) q ∙ omega arith;
        visits_full = λ e. full-spent e o;
        visits_spent = λ e. ap (λ a. a.visited) q;
        visits_complete = λ e. spent-complete o e;
      }
  by_way (ends-complete h k q) =
      let o : (answer_of p d A l).outcome ≡ Ok Complete = ap (λ a. a.outcome) q in
      record {
        full = (λ e. full-complete e o, λ i. absurd (omega arith));
        spent = (λ e. spent-complete e o, λ i. absurd (omega (arith, i.1)));
        complete = (λ e. (k, omega (arith, all_leaves k)), λ i. o);
        never_refused = λ n e. refused-complete e o;
        writes = ap (λ a. a.written) q ∙ omega arith;
        visits_full = λ e. full-complete e o;
        visits_spent = λ e. spent-complete e o;
        visits_complete = λ e. ap (λ a. a.visited) q;
      }

  pub by_search : BySearch p d A l
  by_search = by_way (rw (runs.accepted p d A l v).0 (ended (leaf_of p d) (nodes_of p d) A (length l)))

-- ---- of every table
module _ (p : Program) (d : ℕ) (A : ℕ) (l : List ℕ) where
  -- as many words are listed as are counted
  pub counted : length (take (answer_of p d A l).written (exit_of p d A l)) ≡ (answer_of p d A l).written
  unfolding listed
  counted = ⊎_elim
      (λ v. ap length (runs.listed_is p d A l v) ∙ sym (runs.written_is (leaf_of p d) (nodes_of p d) A (length l)) ∙ ap (λ a. a.written) (sym (runs.accepted p d A l v).0))
      (λ v. ap length (runs.listed_none p d A l v) ∙ ap (λ a. a.written) (sym (runs.refused p d A l v).0))
      (dec (valid p))
