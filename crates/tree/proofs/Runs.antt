-- What every search answers and lists, for every table, every node limit A and every lent list l. Assumes nothing.
use Rattle.program.specs.declared.Refusal.{Refusal}
use Rattle.program.specs.declared.Refusal.TheVariants.{InvalidProgram}
use Rattle.std.specs.Prelude.{Ok, Err}
use mathlib.Core.Path.{◌≡◌, refl, sym, ap}
use mathlib.Core.Bool.{Bool, true, false, cond}
use mathlib.Core.Logic.{◌⊎◌, ⊎_elim}
use mathlib.Core.List.{List, []}
use Prim.Native.Nat.{ℕ, suc, ◌+◌, ◌-◌, ◌*◌, ◌%◌, ◌^◌, ◌≤◌, ◌<◌}
use native.Mathlib.Omega.{arith}
use lib.Dec.{ltb}
use lib.ListN.{length, take, drop, length-take, length-drop, length-append, take-append-drop}
use lib.Seq.{take-append_seam, drop-append_seam, take_all}
use borrow.Author.Tests.{ltb-true, ltb-false}
use Rattle.sets.specs.Lists.{Begins}
use Rattle.sets.specs.Words.{bit}
use Rattle.sets.proofs.Tests.{dec, clash}
use Rattle.sets.proofs.Rising.{begins_append, begins_take}
use Rattle.program.specs.declared.Program.{Program}
use Rattle.program.specs.Clauses.{Clause}
use Rattle.program.specs.Days.{clauses}
use Rattle.program.specs.Valid.{valid}
use Rattle.program.specs.Refusals.{lowest, numbered}
use Rattle.semantics.specs.Definitions.{PStable}
use Rattle.semantics.specs.Interpretations.{rules_of, is_stable, models}
use Rattle.stable.proofs.Decides.{stable_PStable, PStable_stable}
use Rattle.program.specs.declared.Outcome.TheVariants.{Complete, Full, Spent}
use Rattle.tree.specs.Tree.{Node, Dead, tree, node_count, hits, stable_leaves}
use Rattle.tree.specs.NodeTest.{dead}
use Rattle.tree.specs.Answer.{answer, overfull, full_at, run_answer, listing, run_exit, leaf_of, nodes_of, refusal, answer_of, exit_of, listed}
use Rattle.tree.proofs.Nodes.{hits-append, leaves_models, count-nodes}
use Rattle.tree.proofs.Support.{dead_below}

-- ---- the tree
-- no leaf below a node that D calls dead is p-stable
abbrev pub Harmless : Dead → List Clause → Type 0
Harmless D P = (k w r : ℕ) → w % 2 ^ k ≡ 0 → D k w ≡ true → r < 2 ^ k → PStable (rules_of P) (bit (w + r)) → ⊥

-- for every such dead test, the p-stable leaves in visiting order are exactly the p-stable words, rising
pub leaves_are_models : (D : Dead) (n : ℕ) (P : List Clause) → Harmless D P → stable_leaves D P (tree D n) ≡ models n P
leaves_are_models D n P h = leaves_models D P (λ k w r z d l. ⊎_elim
    (λ t. absurd (h k w r z d l (stable_PStable P (w + r) t)))
    (λ f. f)
    (dec (is_stable P (w + r)))) n

-- the node test is such a test
pub dead_harmless : (P : List Clause) → Harmless (dead P) P
dead_harmless P k w r z d l s = clash (is_stable P (w + r)) (PStable_stable P (w + r) s) (dead_below P k w r z l d)

-- "N is at most 2^(2n+1) - 1"
pub node_count_lem : (D : Dead) (n : ℕ) → node_count D n ≤ 2 ^ (2 * n + 1) - 1
node_count_lem D n = let e : 2 * n + 1 ≡ suc (2 * n) = omega arith in rw e (omega (arith, count-nodes D (2 * n) 0))

-- ---- a run over nodes
module _ (hit : Node → Bool) (xs : List Node) (A : ℕ) where
  -- the number of words written is the answer's
  pub written_is : (L : ℕ) → (run_answer hit xs A L).written ≡ length (listing hit xs A L)
  unfolding run_answer listing overfull
  written_is L = go (ltb L (length (hits hit (take A xs)))) refl (ltb A (length xs))
    where
      go : (b : Bool) → ltb L (length (hits hit (take A xs))) ≡ b → (c : Bool)
          → (cond b (answer {R = Refusal} (Ok Full) L (full_at hit xs L)) (cond c (answer (Ok Spent) (length (hits hit (take A xs))) A) (answer (Ok Complete) (length (hits hit (take A xs))) (length xs)))).written
          ≡ length (take L (hits hit (take A xs)))
      go true e c =
          let h : L < length (hits hit (take A xs)) = ltb-true _ _ e in
          let q : L ≡ length (take L (hits hit (take A xs))) = omega (arith, length-take L (hits hit (take A xs))) in
          q
      go false e true = ap length (sym (take_all L (hits hit (take A xs)) (ltb-false _ _ e)))
      go false e false = ap length (sym (take_all L (hits hit (take A xs)) (ltb-false _ _ e)))

  pub listing_begins : (L : ℕ) → Begins (listing hit xs A L) (hits hit xs)
  unfolding listing
  listing_begins L =
      begins_take L (hits hit (take A xs)) (hits hit xs)
      (rw (take-append-drop A xs) at (rw (← hits-append hit (take A xs) (drop A xs)) at (begins_append (hits hit (take A xs)) (hits hit (drop A xs)))))

  pub fits : (L : ℕ) → length (listing hit xs A L) ≤ L
  unfolding listing
  fits L = omega (arith, length-take L (hits hit (take A xs)))

  exit_first : (l : List ℕ) → take (length (listing hit xs A (length l))) (run_exit hit xs A l) ≡ listing hit xs A (length l)
  unfolding run_exit
  exit_first l = take-append_seam (listing hit xs A (length l)) (drop (length (listing hit xs A (length l))) l)

  exit_rest : (l : List ℕ) → drop (length (listing hit xs A (length l))) (run_exit hit xs A l) ≡ drop (length (listing hit xs A (length l))) l
  unfolding run_exit
  exit_rest l = drop-append_seam (listing hit xs A (length l)) (drop (length (listing hit xs A (length l))) l)

  exit_length : (l : List ℕ) → length (run_exit hit xs A l) ≡ length l
  unfolding run_exit
  exit_length l =
      let ws = listing hit xs A (length l) in
      omega (arith, length-append ws (drop (length ws) l), length-drop (length ws) l, fits (length l))

-- ---- the search of a table on a day
pub leaves_of : (p : Program) (d : ℕ) → hits (leaf_of p d) (nodes_of p d) ≡ models p.atom_count (clauses p d)
leaves_of p d = leaves_are_models (dead (clauses p d)) p.atom_count (clauses p d) (dead_harmless (clauses p d))

module _ (p : Program) (d A : ℕ) (l : List ℕ) where
  -- a table that 9 does not refuse: the answer and the list of the run; any other: refusal 9, and the list as it was
  pub accepted : valid p ≡ true → (answer_of p d A l ≡ run_answer (leaf_of p d) (nodes_of p d) A (length l)) × (exit_of p d A l ≡ run_exit (leaf_of p d) (nodes_of p d) A l)
  unfolding answer_of exit_of refusal lowest
  accepted v = (rw v, rw v)

  pub refused : valid p ≡ false → (answer_of p d A l ≡ answer (Err InvalidProgram) 0 0) × (exit_of p d A l ≡ l)
  unfolding answer_of exit_of refusal lowest numbered
  refused v = (rw v, rw v)

  pub listed_is : valid p ≡ true → listed p d A l ≡ listing (leaf_of p d) (nodes_of p d) A (length l)
  unfolding listed
  listed_is v =
      let a = accepted v in
      rw (a.0, a.1, written_is (leaf_of p d) (nodes_of p d) A (length l)) (exit_first (leaf_of p d) (nodes_of p d) A l)

  pub listed_none : valid p ≡ false → listed p d A l ≡ []
  unfolding listed
  listed_none v = rw (refused v).0

  -- what a search lists is the first part of the rising list of the p-stable words: the lowest ones, each just once
  pub lists-lowest : Begins (listed p d A l) (models p.atom_count (clauses p d))
  lists-lowest = ⊎_elim
      (λ v. rw (listed_is v, ← leaves_of p d) (listing_begins (leaf_of p d) (nodes_of p d) A (length l)))
      (λ v. rw (listed_none v) (begins_append [] (models p.atom_count (clauses p d))))
      (dec (valid p))

  -- "List places beyond those written keep their content."
  pub keeps_rest : drop (answer_of p d A l).written (exit_of p d A l) ≡ drop (answer_of p d A l).written l
  keeps_rest = ⊎_elim
      (λ v. let a = accepted v in rw (a.0, a.1, written_is (leaf_of p d) (nodes_of p d) A (length l)) (exit_rest (leaf_of p d) (nodes_of p d) A l))
      (λ v. rw (refused v).1)
      (dec (valid p))

  pub same-places : length (exit_of p d A l) ≡ length l
  same-places = ⊎_elim (λ v. rw (accepted v).1 (exit_length (leaf_of p d) (nodes_of p d) A l)) (λ v. rw (refused v).1) (dec (valid p))
