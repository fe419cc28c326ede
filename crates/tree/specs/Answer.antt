-- What a search answers and lists, read off the first A nodes in visiting order. Assumes nothing.
use Rattle.std.specs.Prelude.{◌≡◌, Bool, not, List, [], ◌∷◌, ◌++◌, ℕ, eqb, Result, Ok, Err}
use Rattle.std.proofs.Math.Bool.{cond}
use Rattle.std.proofs.Math.Dec.{ltb}
use Rattle.std.proofs.Math.ListN.{length, take, drop}
use Rattle.sets.specs.Least.{least}
use Rattle.program.specs.declared.Program.{Program}
use Rattle.program.specs.Clauses.{Clause}
use Rattle.program.specs.Days.{clauses}
use Rattle.program.specs.Valid.{valid}
use Rattle.program.specs.Refusals.{lowest, refusal_of}
use Rattle.program.specs.declared.Outcome.{Outcome}
use Rattle.program.specs.declared.Outcome.TheVariants.{Complete, Full, Spent}
use Rattle.program.specs.declared.Refusal.{Refusal}
use Rattle.tree.specs.declared.SearchAnswerWith.{SearchAnswerWith}
use Rattle.tree.specs.Tree.{Node, Dead, tree, is_stable_leaf, hits}
use Rattle.tree.specs.NodeTest.{dead}

-- the search's answer has a refusal where the call refuses; `SearchAnswerWith R` has an R there
abbrev pub SearchAnswer : Type 0
SearchAnswer = SearchAnswerWith Refusal

-- "The answer has outcome, models written and nodes visited."
abbrev pub answer : {R : Type 0} → Result Outcome R → ℕ → ℕ → SearchAnswerWith R
answer o n v = record { outcome = o; written = n; visited = v }

-- ---- a run over the nodes xs, with the test `hit` of p-stable leaves, the node limit A (document 01's allowance) and a list of L places
module _ (hit : Node → Bool) (xs : List Node) where
  -- more than L of the first m nodes are p-stable: "one is p-stable and the list is full already"
  unfoldable pub overfull : ℕ → ℕ → Bool
  unfolding hits
  overfull L m = ltb L (length (hits hit (take m xs)))

  -- "the first such node ends the run as full and is counted": the least number of nodes for which that is so
  unfoldable pub full_at : ℕ → ℕ
  unfolding least overfull
  full_at L = least (overfull L) (length xs)

  -- "if among the first A nodes one is p-stable and the list is full already, the first such node ends the run as full and is counted.
  -- Else if A < N it is spent, with A nodes visited. Else it is complete, with N visited."
  unfoldable pub run_answer : ℕ → ℕ → SearchAnswer
  unfolding overfull full_at hits
  run_answer A L =
      let found = length (hits hit (take A xs)) in
      cond (overfull L A) (answer (Ok Full) L (full_at L))
      (cond (ltb A (length xs)) (answer (Ok Spent) found A) (answer (Ok Complete) found (length xs)))

  -- the words that are written: as many as the list has places for
  unfoldable pub listing : ℕ → ℕ → List ℕ
  unfolding hits
  listing A L = take L (hits hit (take A xs))

  -- "List places beyond those written keep their content."
  unfoldable pub run_exit : ℕ → List ℕ → List ℕ
  unfolding listing
  run_exit A l = listing A (length l) ++ drop (length (listing A (length l))) l

-- ---- the search of a table on a day, over the clauses of the day
-- the test of p-stable leaves; the nodes of the tree
abbrev pub leaf_of : Program → ℕ → Node → Bool
leaf_of p d = is_stable_leaf (dead (clauses p d)) (clauses p d)

abbrev pub nodes_of : Program → ℕ → List Node
nodes_of p d = tree (dead (clauses p d)) p.atom_count

-- "the search [meets] 9"
abbrev pub refusals : Program → List (ℕ × Bool)
refusals p = (9, not (valid p)) ∷ []

unfoldable pub refusal : Program → ℕ
refusal p = lowest (refusals p)

-- the answer for every table, every day, every node limit and every list that is lent; where refused, "counts are 0"
unfoldable pub answer_of : Program → ℕ → ℕ → List ℕ → SearchAnswer
answer_of p d A l = cond (eqb (refusal p) 0) (run_answer (leaf_of p d) (nodes_of p d) A (length l)) (answer (Err (refusal_of (refusal p))) 0 0)

-- the list at exit; a refusal writes none
unfoldable pub exit_of : Program → ℕ → ℕ → List ℕ → List ℕ
exit_of p d A l = cond (eqb (refusal p) 0) (run_exit (leaf_of p d) (nodes_of p d) A l) l

-- "What a run lists is the words it wrote from the start of its lent list, as many as its answer counts as written"
unfoldable pub listed : Program → ℕ → ℕ → List ℕ → List ℕ
listed p d A l = take (answer_of p d A l).written (exit_of p d A l)

-- the contract of the search: the answer and the list at exit, outright
pub record Searches (p : Program) (d A : ℕ) (l₀ : List ℕ) (a : SearchAnswer) (l : List ℕ) : Type 0 where
  pub says : a ≡ answer_of p d A l₀
  pub lists : l ≡ exit_of p d A l₀

-- the same of a run over clauses and n atoms with the dead test D, before any refusal
pub record Ends (D : Dead) (P : List Clause) (n A : ℕ) (l₀ : List ℕ) (a : SearchAnswer) (l : List ℕ) : Type 0 where
  pub says : a ≡ run_answer (is_stable_leaf D P) (tree D n) A (length l₀)
  pub lists : l ≡ run_exit (is_stable_leaf D P) (tree D n) A l₀
