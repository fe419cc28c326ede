-- The tree under the node test has the p-stable leaves of the tree under document 01's test, in no more nodes, and none of them later. Assumes nothing.
use Rattle.std.specs.Prelude.{Ok}
use mathlib.Core.Path.{◌≡◌, refl, sym, ap, ◌∙◌, fun_ext}
use mathlib.Core.Bool.{Bool, true, false, cond}
use mathlib.Core.Logic.{◌⊎◌, ⊎_elim}
use mathlib.Core.List.{List, [], ◌∷◌, ◌++◌}
use Prim.Native.Nat.{ℕ, zero, suc, ◌+◌, ◌-◌, ◌*◌, ◌%◌, ◌^◌, ◌≤◌, ◌<◌}
use native.Mathlib.Nat.{zero-add, zero-mod}
use native.Mathlib.Omega.{arith}
use lib.ListN.{length, take, drop, length-append}
use lib.Seq.{take_all, take-nil}
use Rattle.sets.proofs.Tests.{clash, lt_or_ge}
use Rattle.sets.proofs.Rising.{begins_same}
use Rattle.program.specs.declared.Program.{Program}
use Rattle.program.specs.declared.Outcome.TheVariants.{Spent}
use Rattle.program.specs.Clauses.{Clause}
use Rattle.program.specs.Days.{clauses}
use Rattle.program.specs.Valid.{valid}
use Rattle.semantics.specs.Interpretations.{is_stable}
use Rattle.tree.specs.Tree.{Node, node, Dead, nodes, tree, node_count, is_stable_leaf, hits}
use Rattle.tree.specs.NodeTest.{violated, dead}
use Rattle.tree.specs.Answer.{SearchAnswer, full_at, run_answer, listing, run_exit, Searches, Ends}
use Rattle.tree.specs.Before.{AsBefore}
use Rattle.tree.proofs.Nodes.{low_out, low_in, hits-append, not_leaf, stable_is_leaf, leaves_from, none_from, from_double}
use Rattle.tree.proofs.Support.{violated-dead, dead_below}
use Rattle.tree.proofs.Ends.{Ended, ends-full, ends-spent, ends-complete, not_before, comes, ended}
use Rattle.tree.proofs.Runs.{written_is, listing_begins, accepted}

-- ---- fewer nodes with the same hits
module _ (hit : Node → Bool) where
  -- how many of the first A are hits
  abbrev found : ℕ → List Node → ℕ
  found A xs = length (hits hit (take A xs))

  found-append : (A : ℕ) (xs ys : List Node) → found A (xs ++ ys) ≡ found A xs + found (A - length xs) ys
  unfolding hits
  found-append A [] ys = let e : A - 0 ≡ A = omega arith in rw (take-nil {A = Node} A, e, zero-add)
  found-append zero (x ∷ xs) ys = let e : 0 - suc (length xs) ≡ 0 = omega arith in rw e
  found-append (suc A) (x ∷ xs) ys = let e : suc A - suc (length xs) ≡ A - length xs = omega arith in rw e (go (hit x) (found-append A xs ys))
    where
      go : (b : Bool) → found A (xs ++ ys) ≡ found A xs + found (A - length xs) ys
          → length (cond b (x.word ∷ hits hit (take A (xs ++ ys))) (hits hit (take A (xs ++ ys)))) ≡ length (cond b (x.word ∷ hits hit (take A xs)) (hits hit (take A xs))) + found (A - length xs) ys
      go true q = omega arith
      go false q = q

  found_more : (A B : ℕ) (xs : List Node) → A ≤ B → found A xs ≤ found B xs
  unfolding hits
  found_more A B [] h = rw (take-nil {A = Node} A, take-nil {A = Node} B) (omega arith)
  found_more zero B (x ∷ xs) h = omega arith
  found_more (suc A) zero (x ∷ xs) h = absurd (omega arith)
  found_more (suc A) (suc B) (x ∷ xs) h = go (hit x) (found_more A B xs (omega arith))
    where
      go : (b : Bool) → found A xs ≤ found B xs → length (cond b (x.word ∷ hits hit (take A xs)) (hits hit (take A xs))) ≤ length (cond b (x.word ∷ hits hit (take B xs)) (hits hit (take B xs)))
      go true q = omega arith
      go false q = q

  found_all : (A : ℕ) (xs : List Node) → length xs ≤ A → found A xs ≡ length (hits hit xs)
  found_all A xs h = ap (λ ns. length (hits hit ns)) (take_all A xs h)

  found-most : (A : ℕ) (xs : List Node) → found A xs ≤ length (hits hit xs)
  found-most A xs = omega (arith, found_more A (A + length xs) xs (omega arith), found_all (A + length xs) xs (omega arith))

  -- ys are no more nodes than xs, with the same hits, none of them later
  record Thins (ys xs : List Node) : Type 0 where
    same : hits hit ys ≡ hits hit xs
    fewer : length ys ≤ length xs
    early : (A : ℕ) → found A xs ≤ found A ys

  thins_self : (xs : List Node) → Thins xs xs
  thins_self xs = record { same = refl; fewer = omega arith; early = λ A. omega arith }

  thins_none : (xs : List Node) → hits hit xs ≡ [] → Thins [] xs
  unfolding hits
  thins_none xs e = record { same = sym e; fewer = omega arith; early = λ A. omega (arith, found-most A xs, ap length e) }

  thins_cons : (x : Node) (ys xs : List Node) → Thins ys xs → Thins (x ∷ ys) (x ∷ xs)
  unfolding hits
  thins_cons x ys xs t = record { same = ap (λ ws. cond (hit x) (x.word ∷ ws) ws) t.same; fewer = omega (arith, t.fewer); early = more }
    where
      more : (A : ℕ) → found A (x ∷ xs) ≤ found A (x ∷ ys)
      more zero = omega arith
      more (suc A) = go (hit x)
        where
          go : (b : Bool) → length (cond b (x.word ∷ hits hit (take A xs)) (hits hit (take A xs))) ≤ length (cond b (x.word ∷ hits hit (take A ys)) (hits hit (take A ys)))
          go true = omega (arith, t.early A)
          go false = t.early A

  thins_append : (us vs ys xs : List Node) → Thins us vs → Thins ys xs → Thins (us ++ ys) (vs ++ xs)
  thins_append us vs ys xs s t = record {
    same = hits-append hit us ys ∙ rw (s.same, t.same) (sym (hits-append hit vs xs));
    fewer = omega (arith, length-append us ys, length-append vs xs, s.fewer, t.fewer);
    early = λ A. omega (
      arith,
      found-append A us ys,
      found-append A vs xs,
      s.early A,
      t.early (A - length vs),
      found_more (A - length vs) (A - length us) ys (omega (arith, s.fewer)),
    );
  }

-- ---- two runs, one over fewer nodes with the same hits
module _ (hit : Node → Bool) (ys xs : List Node) (t : Thins hit ys xs) (A : ℕ) (l : List ℕ) where
  -- as many words are the same words
  same_list : (run_answer hit ys A (length l)).written ≡ (run_answer hit xs A (length l)).written → run_exit hit ys A l ≡ run_exit hit xs A l
  unfolding run_exit
  same_list e = ap (λ (ws : List ℕ). ws ++ drop (length ws) l) (begins_same (listing hit ys A (length l)) (listing hit xs A (length l)) (hits hit xs)
      (rw t.same at (listing_begins hit ys A (length l)))
      (listing_begins hit xs A (length l))
      (sym (written_is hit ys A (length l)) ∙ e ∙ written_is hit xs A (length l)))

  -- the node at which one hit too many has been visited comes no later
  full-early : length l < found hit A xs → full_at hit ys (length l) ≤ full_at hit xs (length l)
  full-early h = ⊎_elim
      (λ i. absurd (omega (arith, not_before hit ys (length l) (full_at hit xs (length l)) i, comes hit xs (length l) A h, t.early (full_at hit xs (length l)))))
      (λ i. i)
      (lt_or_ge (full_at hit xs (length l)) (full_at hit ys (length l)))

  full_within : length l < found hit A ys → full_at hit ys (length l) ≤ A
  full_within h = ⊎_elim (λ i. absurd (omega (arith, not_before hit ys (length l) A i))) (λ i. i) (lt_or_ge A (full_at hit ys (length l)))

  -- what is to be shown of the two answers; the lists follow from what is written
  both : (a b : SearchAnswer) → a ≡ run_answer hit xs A (length l) → b ≡ run_answer hit ys A (length l)
      → ((a.outcome ≡ Ok Spent → ⊥) → (b.outcome ≡ a.outcome) × (b.written ≡ a.written)) → b.visited ≤ a.visited → a.written ≤ b.written
      → AsBefore a b (run_exit hit xs A l) (run_exit hit ys A l)
  both a b p q f v g = record {
    ends = λ d. (f d).0;
    lists = λ d. same_list (ap (λ x. x.written) (sym q) ∙ (f d).1 ∙ ap (λ x. x.written) p);
    writes = λ d. (f d).1;
    visits = omega (arith, v);
    no_fewer = omega (arith, g);
  }

  as_ended : (a b : SearchAnswer) → a ≡ run_answer hit xs A (length l) → b ≡ run_answer hit ys A (length l)
      → Ended (length l) (found hit A xs) A (length xs) (full_at hit xs (length l)) a → Ended (length l) (found hit A ys) A (length ys) (full_at hit ys (length l)) b
      → AsBefore a b (run_exit hit xs A l) (run_exit hit ys A l)
  as_ended a b p q (ends-full h e) (ends-full i f) =
      both a b p q (λ d. (ap (λ x. x.outcome) f ∙ sym (ap (λ x. x.outcome) e), rw (e, f))) (rw (e, f) (full-early h)) (rw (e, f) (omega arith))
  as_ended a b p q (ends-full h e) (ends-spent i j f) = absurd (omega (arith, t.early A))
  as_ended a b p q (ends-full h e) (ends-complete i j f) = absurd (omega (arith, t.early A))
  as_ended a b p q (ends-spent h g e) (ends-full i f) = both a b p q (λ d. absurd (d (ap (λ x. x.outcome) e))) (rw (e, f) (full_within i)) (rw (e, f) h)
  as_ended a b p q (ends-spent h g e) (ends-spent i j f) = both a b p q (λ d. absurd (d (ap (λ x. x.outcome) e))) (rw (e, f) (omega arith)) (rw (e, f) (t.early A))
  as_ended a b p q (ends-spent h g e) (ends-complete i j f) = both a b p q (λ d. absurd (d (ap (λ x. x.outcome) e))) (rw (e, f) j) (rw (e, f) (t.early A))
  as_ended a b p q (ends-complete h g e) (ends-full i f) = absurd (omega (arith, found-most hit A ys, ap length t.same, found_all hit A xs g))
  as_ended a b p q (ends-complete h g e) (ends-spent i j f) = absurd (omega (arith, t.fewer))
  as_ended a b p q (ends-complete h g e) (ends-complete i j f) =
      let w : found hit A ys ≡ found hit A xs = found_all hit A ys j ∙ ap length t.same ∙ sym (found_all hit A xs g) in
      both a b p q (λ d. (ap (λ x. x.outcome) f ∙ sym (ap (λ x. x.outcome) e), rw (e, f) w)) (rw (e, f) t.fewer) (rw (e, f) (omega arith))

  run_as_before : AsBefore (run_answer hit xs A (length l)) (run_answer hit ys A (length l)) (run_exit hit xs A l) (run_exit hit ys A l)
  run_as_before = as_ended (run_answer hit xs A (length l)) (run_answer hit ys A (length l)) refl refl (ended hit xs A (length l)) (ended hit ys A (length l))

-- ---- two trees, where what C calls dead D calls dead too, and no leaf below what D calls dead is p-stable
module _ (C D : Dead) (P : List Clause) (wider : (k w : ℕ) → C k w ≡ true → D k w ≡ true)
    (harmless : (k w r : ℕ) → w % 2 ^ k ≡ 0 → D k w ≡ true → r < 2 ^ k → is_stable P (w + r) ≡ false) where
  narrower : (k w r : ℕ) → w % 2 ^ k ≡ 0 → C k w ≡ true → r < 2 ^ k → is_stable P (w + r) ≡ false
  narrower k w r z c = harmless k w r z (wider k w c)

  same_leaf : is_stable_leaf D P ≡ is_stable_leaf C P
  same_leaf = fun_ext (λ x. go x.undecided x.word)
    where
      go : (k w : ℕ) → is_stable_leaf D P (node k w) ≡ is_stable_leaf C P (node k w)
      go zero w = stable_is_leaf D P harmless w ∙ sym (stable_is_leaf C P narrower w)
      go (suc k) w = not_leaf D P k w ∙ sym (not_leaf C P k w)

  -- below a node that D alone calls dead there is no p-stable leaf
  left_out : (k w : ℕ) → w % 2 ^ suc k ≡ 0 → D (suc k) w ≡ true → hits (is_stable_leaf C P) (nodes C k w ++ nodes C k (w + 2 ^ k)) ≡ []
  left_out k w z d =
      hits-append (is_stable_leaf C P) (nodes C k w) (nodes C k (w + 2 ^ k))
      ∙ rw (leaves_from C P narrower k w (low_out k w z), leaves_from C P narrower k (w + 2 ^ k) (low_in k w z), ← from_double P k w) (none_from D P harmless (suc k) w z d)

  nodes_thin : (k w : ℕ) → w % 2 ^ k ≡ 0 → Thins (is_stable_leaf C P) (nodes D k w) (nodes C k w)
  unfolding nodes
  nodes_thin zero w z = thins_self (is_stable_leaf C P) (node 0 w ∷ [])
  nodes_thin (suc k) w z = thins_cons (is_stable_leaf C P) (node (suc k) w) _ _
      (go (C (suc k) w) refl (D (suc k) w) refl (nodes_thin k w (low_out k w z)) (nodes_thin k (w + 2 ^ k) (low_in k w z)))
    where
      go : (c : Bool) → C (suc k) w ≡ c → (d : Bool) → D (suc k) w ≡ d
          → Thins (is_stable_leaf C P) (nodes D k w) (nodes C k w) → Thins (is_stable_leaf C P) (nodes D k (w + 2 ^ k)) (nodes C k (w + 2 ^ k))
          → Thins (is_stable_leaf C P) (cond d [] (nodes D k w ++ nodes D k (w + 2 ^ k))) (cond c [] (nodes C k w ++ nodes C k (w + 2 ^ k)))
      go true e true f s t = thins_self (is_stable_leaf C P) []
      go true e false f s t = clash (D (suc k) w) (wider (suc k) w e) f
      go false e true f s t = thins_none (is_stable_leaf C P) (nodes C k w ++ nodes C k (w + 2 ^ k)) (left_out k w z f)
      go false e false f s t = thins_append (is_stable_leaf C P) (nodes D k w) (nodes C k w) (nodes D k (w + 2 ^ k)) (nodes C k (w + 2 ^ k)) s t

  tree_thin : (n : ℕ) → Thins (is_stable_leaf C P) (tree D n) (tree C n)
  tree_thin n = nodes_thin (2 * n) 0 (zero-mod (2 ^ (2 * n)))

  ends_as_before : (n A : ℕ) (l₀ : List ℕ) {a b : SearchAnswer} {l m : List ℕ} → Ends C P n A l₀ a l → Ends D P n A l₀ b m → AsBefore a b l m
  ends_as_before n A l₀ s t =
      let says = t.says ∙ ap (λ hit. run_answer hit (tree D n) A (length l₀)) same_leaf in
      let lists = t.lists ∙ ap (λ hit. run_exit hit (tree D n) A l₀) same_leaf in
      rw (s.says, s.lists, says, lists) (run_as_before (is_stable_leaf C P) (tree D n) (tree C n) (tree_thin n) A l₀)

-- ---- document 01's test and the node test
module _ (P : List Clause) where
  below-dead : (k w r : ℕ) → w % 2 ^ k ≡ 0 → dead P k w ≡ true → r < 2 ^ k → is_stable P (w + r) ≡ false
  below-dead k w r z d h = dead_below P k w r z h d

  -- "N counts the smaller tree"
  pub fewer_nodes : (n : ℕ) → node_count (dead P) n ≤ node_count (violated P) n
  fewer_nodes n = (tree_thin (violated P) (dead P) P (violated-dead P) below-dead n).fewer

  -- "a run that is spent under neither rule must list just what it did before"
  pub as_before : (n A : ℕ) (l₀ : List ℕ) {a b : SearchAnswer} {l m : List ℕ} → Ends (violated P) P n A l₀ a l → Ends (dead P) P n A l₀ b m → AsBefore a b l m
  as_before = ends_as_before (violated P) (dead P) P (violated-dead P) below-dead

-- the same of what the contract of the search promises, of the clauses of the day
pub search_as_before : (p : Program) (d A : ℕ) (l₀ : List ℕ) {a b : SearchAnswer} {l m : List ℕ} → valid p ≡ true
    → Ends (violated (clauses p d)) (clauses p d) p.atom_count A l₀ a l → Searches p d A l₀ b m → AsBefore a b l m
search_as_before p d A l₀ v s t =
    let r = accepted p d A l₀ v in
    as_before (clauses p d) p.atom_count A l₀ s (record { says = t.says ∙ r.0; lists = t.lists ∙ r.1 })
