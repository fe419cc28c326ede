-- One node of the search, by the way it is left. Assumes nothing.
use mathlib.Core.Path.{◌≡◌, refl, sym, ap, ◌∙◌}
use mathlib.Core.Bool.{Bool, true, false, cond, not, ◌&&◌, and-false}
use mathlib.Core.List.{List, [], ◌∷◌, ◌++◌}
use Prim.Native.Nat.{ℕ, zero, suc, ◌+◌, ◌-◌, ◌^◌, ◌≤◌, ◌<◌}
use native.Mathlib.Numerals.{sub-one}
use native.Mathlib.Omega.{arith}
use lib.Dec.{eqb, ltb}
use borrow.Author.Tests.{lt-ltb, le-ltb, eq-eqb, ne_eqb, eqb-true, not-true, not-false}
use Rattle.sets.proofs.Tests.{both_true}
use Rattle.program.specs.Clauses.{Clause}
use Rattle.semantics.specs.Interpretations.{reduct, is_model, is_stable}
use Rattle.tree.specs.Tree.{Node, node, Dead, nodes, is_stable_leaf}
use Rattle.tree.specs.declared.NodeStatus.{NodeStatus}
use Rattle.tree.specs.declared.NodeStatus.TheVariants.{Alive, Violated, Unsupported}
use Rattle.tree.specs.NodeTest.{node_test, is_dead, dead}
use Rattle.node.specs.Node.{Placed, AtNode}
use Rattle.seek.specs.Seek.{Ticked, Sought, no_leaf, spent, sought, after}
use Rattle.tree.proofs.Nodes.{live_leaf}
use Rattle.tree.proofs.Support.{alive_holds}
use Rattle.seek.proofs.Handing.{placed_out}
use Rattle.seek.proofs.Seeking.{All, all_map, nodes_between, sought-append, sought_first}

-- ---- the tree below a node
unfoldable below : Dead → ℕ → ℕ → List Node
unfolding nodes
below D zero w = []
below D (suc k) w = cond (D (suc k) w) [] (nodes D k w ++ nodes D k (w + 2 ^ k))

nodes_below : (D : Dead) (k w : ℕ) → nodes D k w ≡ node k w ∷ below D k w
unfolding nodes below
nodes_below D zero w = refl
nodes_below D (suc k) w = refl

below-dead : (D : Dead) (k w : ℕ) → D k w ≡ true → below D k w ≡ []
unfolding below
below-dead D zero w d = refl
below-dead D (suc k) w d = rw d

below_live : (D : Dead) (k w : ℕ) → (k ≡ 0 → ⊥) → D k w ≡ false → below D k w ≡ nodes D (k - 1) w ++ nodes D (k - 1) (w + 2 ^ (k - 1))
unfolding below
below_live D zero w z d = absurd (z refl)
below_live D (suc k) w z d = rw (d, sub-one (suc k))

dead-no_leaf : (D : Dead) (P : List Clause) (k w : ℕ) → D k w ≡ true → is_stable_leaf D P (node k w) ≡ false
unfolding is_stable_leaf
dead-no_leaf D P k w d = rw (d, and-false (eqb k 0))

inner_no_leaf : (D : Dead) (P : List Clause) (k w : ℕ) → (k ≡ 0 → ⊥) → is_stable_leaf D P (node k w) ≡ false
unfolding is_stable_leaf
inner_no_leaf D P k w z = rw (ne_eqb k 0 z)

leaf_is : (D : Dead) (P : List Clause) (k w : ℕ) → k ≡ 0 → D k w ≡ false → is_stable_leaf D P (node k w) ≡ is_stable P w
unfolding is_stable_leaf
leaf_is D P k w z d = rw (d, eq-eqb k 0 z)

-- ---- the test of the node
module _ (P : List Clause) (k w : ℕ) {s : NodeStatus} (e : s ≡ node_test P k w) where
  pub node-alive : s ≡ Alive → false ≡ dead P k w
  unfolding dead
  node-alive q = ap is_dead (sym q ∙ e)

  pub node-violated : s ≡ Violated → true ≡ dead P k w
  unfolding dead
  node-violated q = ap is_dead (sym q ∙ e)

  pub node-unsupported : s ≡ Unsupported → true ≡ dead P k w
  unfolding dead
  node-unsupported q = ap is_dead (sym q ∙ e)

pub leaf_live : (P : List Clause) (k w : ℕ) {r : Bool} → r ≡ dead P k w → r ≡ false → k ≡ 0 → is_model (reduct P w) w ≡ true
leaf_live P k w e t z = live_leaf P w ∙ ap not (alive_holds P 0 w (rw z at (sym e ∙ t)))

pub leaf_undecided : (D : Dead) (P : List Clause) (x : Node) → is_stable_leaf D P x ≡ true → x.undecided ≡ 0
unfolding is_stable_leaf
leaf_undecided D P x h = eqb-true _ _ (both_true _ _ (both_true _ _ h).0).0

pub leaf_stable_lem : (D : Dead) (P : List Clause) (x : Node) → is_stable_leaf D P x ≡ true → is_stable P x.word ≡ true
unfolding is_stable_leaf
leaf_stable_lem D P x h = (both_true (eqb x.undecided 0 && not (D x.undecided x.word)) (is_stable P x.word) h).1

-- ---- a node is counted
module _ (A v : ℕ) where
  pub tick_spent : A ≤ v → Ticked A v true v
  tick_spent a = record { stopped = rw (le-ltb v A a); nodes = rw (le-ltb v A a) }

  pub tick_one : v < A → Ticked A v false (v + 1)
  tick_one a = record { stopped = rw (lt-ltb v A a); nodes = rw (lt-ltb v A a) }

pub small_words : (D : Dead) (k w : ℕ) → Placed k w → All (λ u. u < 2 ^ 24) (nodes D k w)
small_words D k w p = all_map _ _ (λ u h. omega (arith, p.fits)) (nodes D k w) (nodes_between D k w)

-- what is found among xs after v nodes is what is found among ys after v'
record Passes (hit : Node → Bool) (A : ℕ) (xs : List Node) (v : ℕ) (ys : List Node) (v' : ℕ) : Type 0 where
  word : sought hit A xs v ≡ sought hit A ys v'
  nodes : after hit A xs v ≡ after hit A ys v'

module _ (D : Dead) (P : List Clause) (A k w v : ℕ) (s : Bool) (v' : ℕ) (t : Ticked A v s v') where
  -- the node itself, with ys below it
  module _ (ys : List Node) where
    node-spent : s ≡ true → Sought (is_stable_leaf D P) A (node k w ∷ ys) v spent v'
    unfolding sought after
    node-spent e = let q = not-true (ltb v A) (sym t.stopped ∙ e) in record { word = rw q; nodes = t.nodes ∙ rw q }

    module _ (e : s ≡ false) where
      counted : ltb v A ≡ true
      counted = not-false (ltb v A) (sym t.stopped ∙ e)

      one_more : v' ≡ v + 1
      one_more = t.nodes ∙ rw counted

      node_passed : is_stable_leaf D P (node k w) ≡ false → Passes (is_stable_leaf D P) A (node k w ∷ ys) v ys v'
      unfolding sought after
      node_passed m = record { word = rw (counted, m, one_more); nodes = rw (counted, m, one_more) }

      node_hit : is_stable_leaf D P (node k w) ≡ true → Sought (is_stable_leaf D P) A (node k w ∷ ys) v w v'
      unfolding sought after
      node_hit m = record { word = rw (counted, m); nodes = one_more ∙ rw (counted, m) }

  -- ---- the ways to leave a node, with v' nodes visited when its test is done
  here : (r : ℕ) → Sought (is_stable_leaf D P) A (node k w ∷ below D k w) v r v' → Sought (is_stable_leaf D P) A (nodes D k w) v r v'
  here r q = rw (nodes_below D k w) q

  pub seek_spent : s ≡ true → Sought (is_stable_leaf D P) A (nodes D k w) v spent v'
  seek_spent e = here spent (node-spent (below D k w) e)

  module _ (e : s ≡ false) where
    past : is_stable_leaf D P (node k w) ≡ false → Passes (is_stable_leaf D P) A (nodes D k w) v (below D k w) v'
    past m = rw (nodes_below D k w) (node_passed (below D k w) e m)

    ends_here : is_stable_leaf D P (node k w) ≡ false → below D k w ≡ [] → Sought (is_stable_leaf D P) A (nodes D k w) v no_leaf v'
    unfolding sought after
    ends_here m z = let r = past m in record { word = sym (r.word ∙ rw z); nodes = sym (r.nodes ∙ rw z) }

    pub seek_dead : {d : Bool} → d ≡ D k w → d ≡ true → Sought (is_stable_leaf D P) A (nodes D k w) v no_leaf v'
    seek_dead q h = let d = sym q ∙ h in ends_here (dead-no_leaf D P k w d) (below-dead D k w d)

    module _ {d : Bool} (f : d ≡ D k w) (live : d ≡ false) where
      module _ {r : Bool} (z : k ≡ 0) (q : r ≡ is_stable P w) where
        pub seek_unstable : r ≡ false → Sought (is_stable_leaf D P) A (nodes D k w) v no_leaf v'
        unfolding below
        seek_unstable h = ends_here (leaf_is D P k w z (sym f ∙ live) ∙ sym q ∙ h) (rw z)

        pub seek_leaf : r ≡ true → Sought (is_stable_leaf D P) A (nodes D k w) v w v'
        seek_leaf h = here w (node_hit (below D k w) e (leaf_is D P k w z (sym f ∙ live) ∙ sym q ∙ h))

      module _ (z : k ≡ 0 → ⊥) where
        split : Passes (is_stable_leaf D P) A (nodes D k w) v (nodes D (k - 1) w ++ nodes D (k - 1) (w + 2 ^ (k - 1))) v'
        split = rw (← below_live D k w z (sym f ∙ live)) (past (inner_no_leaf D P k w z))

        module _ (r v₁ : ℕ) (first : Sought (is_stable_leaf D P) A (nodes D (k - 1) w) v' r v₁) where
          pub seek_first : (r ≡ no_leaf → ⊥) → Sought (is_stable_leaf D P) A (nodes D k w) v r v₁
          seek_first h =
              let q = sought_first (is_stable_leaf D P) A (nodes D (k - 1) w) (nodes D (k - 1) (w + 2 ^ (k - 1))) v' (λ q. h (first.word ∙ q)) in
              record { word = first.word ∙ sym (split.word ∙ q.0); nodes = first.nodes ∙ sym (split.nodes ∙ q.1) }

          pub seek_second_lem : (count reach bit r₂ v₂ : ℕ) → AtNode count k w reach → r ≡ no_leaf → bit ≡ 2 ^ (k - 1)
              → Sought (is_stable_leaf D P) A (nodes D (k - 1) (w + bit)) v₁ r₂ v₂ → Sought (is_stable_leaf D P) A (nodes D k w) v r₂ v₂
          seek_second_lem count reach bit r₂ v₂ at h b second =
              let q = sought-append (is_stable_leaf D P) A (nodes D (k - 1) w) (nodes D (k - 1) (w + 2 ^ (k - 1))) v'
              (small_words D (k - 1) w (placed_out k w at.placed z)) (sym first.word ∙ h) in
              record {
                word = second.word ∙ rw (b, first.nodes) (sym (split.word ∙ q.0));
                nodes = second.nodes ∙ rw (b, first.nodes) (sym (split.nodes ∙ q.1));
              }
