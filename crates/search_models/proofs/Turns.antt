-- The loop of the search: each turn seeks the next p-stable leaf. Assumes nothing.
use Rattle.std.specs.Prelude.{Ok}
use mathlib.Core.Path.{◌≡◌, refl, sym, ap, ◌∙◌}
use mathlib.Core.Bool.{true}
use mathlib.Core.List.{List}
use Prim.Native.Nat.{ℕ, ◌+◌, ◌-◌, ◌*◌, ◌^◌, ◌≤◌, ◌<◌}
use native.Mathlib.Omega.{arith}
use lib.ListN.{length, set, length-set}
use Rattle.program.specs.Clauses.{Clause}
use Rattle.program.specs.declared.Outcome.TheVariants.{Complete, Full, Spent}
use Rattle.tree.specs.Tree.{Dead, tree, is_stable_leaf}
use Rattle.tree.specs.Answer.{SearchAnswer, answer, Ends}
use Rattle.semantics.specs.Interpretations.{is_stable}
use Rattle.seek.specs.Seek.{Sought, Resumes, no_leaf, spent, from_word}
use Rattle.tree.proofs.Machine.{state, on, runs, runs_answer}
use Rattle.seek.proofs.Seeking.{All, all_map, all-from_word, nodes_between, from_word_all, ordered_nodes, ordered_from_word, from_word-from_word, all_from}
use Rattle.seek.proofs.Seeking.{runs_none, runs-spent, runs-full, runs_found, sought_holds}
use Rattle.seek.proofs.Handing.{placed_root}
use Rattle.seek.proofs.Visits.{small_words, leaf_undecided, leaf_stable_lem}

-- the search has m models listed and v nodes visited, and goes on with the nodes from x on
pub record Searching (D : Dead) (P : List Clause) (A n : ℕ) (l₀ : List ℕ) (x m v : ℕ) (l : List ℕ) : Type 0 where
  pub room : length l ≡ length l₀
  pub within : x ≤ 2 ^ 24
  pub resumes : Resumes P x
  pub same : runs (is_stable_leaf D P) A (from_word x (tree D n)) (on m v l) ≡ runs (is_stable_leaf D P) A (tree D n) (on 0 0 l₀)

module _ (D : Dead) (P : List Clause) (A n : ℕ) (l₀ : List ℕ) where
  pub turn_start : Searching D P A n l₀ 0 0 0 l₀
  turn_start = record {
    room = refl;
    within = omega arith;
    resumes = record { found = λ d. absurd (d refl) };
    same = ap (λ ns. runs (is_stable_leaf D P) A ns (on 0 0 l₀)) (from_word_all 0 (tree D n) (all_map _ _ (λ u h. omega arith) (tree D n) (nodes_between D (2 * n) 0)));
  }

  ended : (b : SearchAnswer) (l : List ℕ) {a : SearchAnswer} → a ≡ b → state b l ≡ runs (is_stable_leaf D P) A (tree D n) (on 0 0 l₀) → Ends D P n A l₀ a l
  ended b l q e = record {
    says = q ∙ ap (λ s. s.so_far) (e ∙ runs_answer (is_stable_leaf D P) A (tree D n) l₀);
    lists = ap (λ s. s.list) (e ∙ runs_answer (is_stable_leaf D P) A (tree D n) l₀);
  }

  module _ (x m v : ℕ) (l : List ℕ) (g : Searching D P A n l₀ x m v l) (few : n ≤ 12) (r v' : ℕ) (s : Sought (is_stable_leaf D P) A (from_word x (tree D n)) v r v') where
    ends : (b : SearchAnswer) {a : SearchAnswer} → runs (is_stable_leaf D P) A (from_word x (tree D n)) (on m v l) ≡ state b l → a ≡ b → Ends D P n A l₀ a l
    ends b e y = ended b l y (sym (sym g.same ∙ e))

    small : All (λ u. u < 2 ^ 24) (from_word x (tree D n))
    small = all-from_word _ x (tree D n) (small_words D (2 * n) 0 (placed_root n few))

    pub turn_none : {a : SearchAnswer} → r ≡ no_leaf → a ≡ answer (Ok Complete) m v' → Ends D P n A l₀ a l
    turn_none h = ends (answer (Ok Complete) m v') (runs_none (is_stable_leaf D P) A m l (from_word x (tree D n)) v small (sym s.word ∙ h) ∙ rw (← s.nodes))

    pub turn_spent : {a : SearchAnswer} → r ≡ spent → a ≡ answer (Ok Spent) m v' → Ends D P n A l₀ a l
    turn_spent h = ends (answer (Ok Spent) m v') (runs-spent (is_stable_leaf D P) A m l (from_word x (tree D n)) v small (sym s.word ∙ h) ∙ rw (← s.nodes))

    module _ (p : r ≡ no_leaf → ⊥) (q : r ≡ spent → ⊥) where
      pub turn_full : {a : SearchAnswer} → length l ≤ m → a ≡ answer (Ok Full) m v' → Ends D P n A l₀ a l
      turn_full h = ends (answer (Ok Full) m v') (runs-full (is_stable_leaf D P) A m l (from_word x (tree D n)) v (λ e. p (s.word ∙ e)) (λ e. q (s.word ∙ e)) h ∙ rw (← s.nodes))

      -- what is so of every word from x on is so of the one that is found, and it is p-stable
      found : (t : ℕ → Type 0) → All t (from_word x (tree D n)) → t r × (is_stable P r ≡ true)
      found t a =
          rw s.word (sought_holds (is_stable_leaf D P) A m l t (λ u. is_stable P u ≡ true) (leaf_stable_lem D P) (from_word x (tree D n)) v a (λ e. p (s.word ∙ e)) (λ e. q (s.word ∙ e)))

      pub turn_above : x ≤ r
      turn_above = (found (λ u. x ≤ u) (all_from x (tree D n))).0

      pub turn_below : r < 2 ^ 24
      turn_below = (found (λ u. u < 2 ^ 24) small).0

      pub turn_falls : 2 ^ 24 - (r + 1) < 2 ^ 24 - x
      turn_falls = omega (arith, turn_above, turn_below)

      pub turn_next : m < length l → Searching D P A n l₀ (r + 1) (m + 1) v' (set l m r)
      turn_next h = record {
        room = length-set l m r ∙ g.room;
        within = omega (arith, turn_below);
        resumes = record { found = λ d. let e : r + 1 - 1 ≡ r = omega arith in rw e (found (λ u. u < 2 ^ 24) small).1 };
        same = sym (sym g.same
            ∙ runs_found (is_stable_leaf D P) A m l (from_word x (tree D n)) v (leaf_undecided D P) (ordered_from_word x (tree D n) (ordered_nodes D (2 * n) 0))
            (λ e. p (s.word ∙ e)) (λ e. q (s.word ∙ e)) h
            ∙ rw (← s.word, ← s.nodes, from_word-from_word x (r + 1) (tree D n) (omega (arith, turn_above))));
      }
