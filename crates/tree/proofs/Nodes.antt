-- Nodes and their words, violated nodes, and the p-stable leaves of a tree. Assumes nothing.
use mathlib.Core.Path.{◌≡◌, refl, sym, ap, ◌∙◌, fun_ext}
use mathlib.Core.Bool.{Bool, true, false, cond, not, ◌&&◌}
use mathlib.Core.List.{List, [], ◌∷◌, ◌++◌}
use Prim.Native.Nat.{ℕ, zero, suc, ◌+◌, ◌-◌, ◌*◌, ◌/◌, ◌%◌, ◌^◌, ◌<◌}
use native.Mathlib.Nat.{pow-suc, add-zero, mod-one, mod-mod, mod-lt, add-mod_right, zero-mod}
use native.Mathlib.Omega.{arith}
use lib.Dec.{eqb-suc-zero}
use lib.Pow.{mod-mod-pow, pow_pos, ones_lt, split}
use lib.Bits.{bit_and, and_block, and_zero_l, and_zero_r, and_mask}
use lib.ListN.{length, length-append}
use borrow.Author.Tests.{eqb-true, eq-eqb}
use Rattle.sets.specs.Lists.{any_of, sift, up_from, tabulate, below}
use Rattle.sets.specs.Words.{inside, apart}
use Rattle.sets.proofs.Tests.{both_true, and_is_true}
use Rattle.sets.proofs.Lists.{some_in, in_some, up_from-add, up_from_in, sift-append, sift_none}
use Rattle.program.specs.Clauses.{Clause}
use Rattle.semantics.specs.Interpretations.{reduct, is_model, violates, is_stable, models}
use Rattle.stable.proofs.Checking.{model_some}
use Rattle.tree.specs.Tree.{Node, node, Dead, nodes, tree, is_stable_leaf, hits, stable_leaves}
use Rattle.tree.specs.NodeTest.{decided, violated_by, violated}

-- ---- a word whose k low bits are zero, and r below 2 ^ k put there
and_blocks : (k a s b r : ℕ) → s < 2 ^ k → r < 2 ^ k → bit_and (a * 2 ^ k + s) (b * 2 ^ k + r) ≡ bit_and (a * 2 ^ k + s) (b * 2 ^ k + 0) + bit_and s r
and_blocks k a s b r h l = omega (arith, and_block k a b s r h l, and_block k a b s 0 h (pow_pos k), and_zero_r s)

pub and_low : (k x w r : ℕ) → w % 2 ^ k ≡ 0 → r < 2 ^ k → bit_and x (w + r) ≡ bit_and x w + bit_and (x % 2 ^ k) r
and_low k x w r z h =
    let e : w / 2 ^ k * 2 ^ k ≡ w = omega (arith, split w k) in
    simp (split, e, add-zero) at (and_blocks k (x / 2 ^ k) (x % 2 ^ k) (w / 2 ^ k) r (mod-lt x (pow_pos k)) h)

-- with every undecided bit
pub and_reach : (k x w : ℕ) → w % 2 ^ k ≡ 0 → bit_and x (w + (2 ^ k - 1)) ≡ bit_and x w + x % 2 ^ k
and_reach k x w z = and_low k x w (2 ^ k - 1) z (ones_lt k) ∙ rw (and_mask, mod-mod)

-- what is decided does not change below a node
pub and_decided : (k x w r : ℕ) → w % 2 ^ k ≡ 0 → r < 2 ^ k → x % 2 ^ k ≡ 0 → bit_and x (w + r) ≡ bit_and x w
and_decided k x w r z h d = omega (arith, and_low k x w r z h, ap (λ y. bit_and y r) d, and_zero_l r)

-- both children of a node are nodes
pub low_out : (k w : ℕ) → w % 2 ^ suc k ≡ 0 → w % 2 ^ k ≡ 0
low_out k w z = let e : 1 + k ≡ suc k = omega arith in sym (mod-mod-pow w 1 k) ∙ rw (e, z) (zero-mod (2 ^ k))

pub low_in : (k w : ℕ) → w % 2 ^ suc k ≡ 0 → (w + 2 ^ k) % 2 ^ k ≡ 0
low_in k w z = add-mod_right w (2 ^ k) ∙ low_out k w z

-- ---- a leaf below a violated node does not satisfy the reduct by itself
module _ (k w r : ℕ) (z : w % 2 ^ k ≡ 0) (h : r < 2 ^ k) where
  in_below : (x : ℕ) → decided k x && inside x w ≡ true → inside x (w + r) ≡ true
  in_below x t = let b = both_true _ _ t in eq-eqb _ _ (and_decided k x w r z h (eqb-true _ _ b.0) ∙ eqb-true _ _ b.1)

  out_below : (x : ℕ) → decided k x && apart x w ≡ true → apart x (w + r) ≡ true
  out_below x t = let b = both_true _ _ t in eq-eqb _ _ (and_decided k x w r z h (eqb-true _ _ b.0) ∙ eqb-true _ _ b.1)

  violated_below : (c : Clause) → violated_by k w c ≡ true → violates (w + r) (w + r) c ≡ true
  unfolding violated_by violates
  violated_below c t =
      let b = both_true _ _ t in
      let a = both_true _ _ b.0 in
      and_is_true _ _ (and_is_true _ _ (in_below c.body a.0) (out_below c.naf a.1)) (out_below c.head b.1)

  pub unstable_below : (P : List Clause) → violated P k w ≡ true → is_stable P (w + r) ≡ false
  unfolding violated is_stable
  unstable_below P t =
      let c = some_in (violated_by k w) P t in
      rw (model_some P (w + r) (w + r), in_some (violates (w + r) (w + r)) P c.0 c.1 (violated_below c.0 c.2))

-- ---- a leaf is violated exactly where it does not satisfy the reduct by itself
settled_leaf : (x : ℕ) (b : Bool) → decided 0 x && b ≡ b
settled_leaf x b = rw (eq-eqb _ _ (mod-one x))

violated_one : (w : ℕ) (c : Clause) → violated_by 0 w c ≡ violates w w c
unfolding violated_by violates
violated_one w c = rw (settled_leaf c.body, settled_leaf c.naf, settled_leaf c.head)

pub live_leaf : (P : List Clause) (w : ℕ) → is_model (reduct P w) w ≡ not (violated P 0 w)
unfolding violated
live_leaf P w = model_some P w w ∙ ap (λ (f : Clause → Bool). not (any_of f P)) (sym (fun_ext (violated_one w)))

-- ---- the p-stable leaves of a tree, for a dead test below whose dead nodes no leaf is p-stable
pub hits-append : (hit : Node → Bool) (xs ys : List Node) → hits hit (xs ++ ys) ≡ hits hit xs ++ hits hit ys
unfolding hits
hits-append hit [] ys = refl
hits-append hit (x ∷ xs) ys = go (hit x) (hits-append hit xs ys)
  where
    go : (b : Bool) → hits hit (xs ++ ys) ≡ hits hit xs ++ hits hit ys
        → cond b (x.word ∷ hits hit (xs ++ ys)) (hits hit (xs ++ ys)) ≡ cond b (x.word ∷ hits hit xs) (hits hit xs) ++ hits hit ys
    go true e = rw e
    go false e = e

pub not_leaf : (D : Dead) (P : List Clause) (k w : ℕ) → is_stable_leaf D P (node (suc k) w) ≡ false
unfolding is_stable_leaf
not_leaf D P k w = rw (eqb-suc-zero k)

-- the numbers from w on, 2 ^ k of them, that are p-stable
abbrev pub stable_from : List Clause → ℕ → ℕ → List ℕ
stable_from P k w = sift (is_stable P) (up_from (λ i. i) (2 ^ k) w)

pub from_double : (P : List Clause) (k w : ℕ) → stable_from P (suc k) w ≡ stable_from P k w ++ stable_from P k (w + 2 ^ k)
from_double P k w =
    let e : 2 ^ suc k ≡ 2 ^ k + 2 ^ k = omega (arith, pow-suc 2 k) in
    rw (e, up_from-add (λ (i : ℕ). i) (2 ^ k) (2 ^ k) w) (sift-append (is_stable P) (up_from (λ i. i) (2 ^ k) w) (up_from (λ i. i) (2 ^ k) (w + 2 ^ k)))

module _ (D : Dead) (P : List Clause) (harmless : (k w r : ℕ) → w % 2 ^ k ≡ 0 → D k w ≡ true → r < 2 ^ k → is_stable P (w + r) ≡ false) where
  pub none_from : (k w : ℕ) → w % 2 ^ k ≡ 0 → D k w ≡ true → stable_from P k w ≡ []
  none_from k w z d = sift_none (is_stable P) (up_from (λ i. i) (2 ^ k) w) (λ x m.
      let r = up_from_in (λ (i : ℕ). i) (2 ^ k) w x m in
      let l = r.1 in
      let u = r.2 in
      let q = r.3 in
      let e : w + (x - w) ≡ x = omega arith in
      rw e at (harmless k w (x - w) z d (omega arith)))

  pub stable_is_leaf : (w : ℕ) → is_stable_leaf D P (node 0 w) ≡ is_stable P w
  unfolding is_stable_leaf
  stable_is_leaf w = go (D 0 w) refl
    where
      go : (b : Bool) → D 0 w ≡ b → not b && is_stable P w ≡ is_stable P w
      go true e = sym (rw add-zero at (harmless 0 w 0 (mod-one w) e (omega arith)))
      go false e = refl

  pub leaves_from : (k w : ℕ) → w % 2 ^ k ≡ 0 → stable_leaves D P (nodes D k w) ≡ stable_from P k w
  unfolding nodes hits sift up_from
  leaves_from zero w z = rw (stable_is_leaf w)
  leaves_from (suc k) w z = rw (not_leaf D P k w) (go (D (suc k) w) refl (leaves_from k w (low_out k w z)) (leaves_from k (w + 2 ^ k) (low_in k w z)))
    where
      go : (b : Bool) → D (suc k) w ≡ b → stable_leaves D P (nodes D k w) ≡ stable_from P k w → stable_leaves D P (nodes D k (w + 2 ^ k)) ≡ stable_from P k (w + 2 ^ k)
          → stable_leaves D P (cond b [] (nodes D k w ++ nodes D k (w + 2 ^ k))) ≡ stable_from P (suc k) w
      go true d e f = sym (none_from (suc k) w z d)
      go false d e f = hits-append (is_stable_leaf D P) (nodes D k w) (nodes D k (w + 2 ^ k)) ∙ rw (e, f) (sym (from_double P k w))

  pub leaves_models : (n : ℕ) → stable_leaves D P (tree D n) ≡ models n P
  unfolding models below tabulate
  leaves_models n = leaves_from (2 * n) 0 (zero-mod (2 ^ (2 * n)))

-- ---- a tree has at most 2 ^ (k + 1) - 1 nodes
pub count-nodes : (D : Dead) (k w : ℕ) → length (nodes D k w) < 2 ^ suc k
unfolding nodes
count-nodes D zero w = omega arith
count-nodes D (suc k) w = go (D (suc k) w) (count-nodes D k w) (count-nodes D k (w + 2 ^ k))
  where
    go : (b : Bool) → length (nodes D k w) < 2 ^ suc k → length (nodes D k (w + 2 ^ k)) < 2 ^ suc k
        → length (node (suc k) w ∷ cond b [] (nodes D k w ++ nodes D k (w + 2 ^ k))) < 2 ^ suc (suc k)
    go true e f = omega (arith, pow-suc 2 (suc k), pow-suc 2 k, pow_pos k)
    go false e f = omega (arith, pow-suc 2 (suc k), length-append (nodes D k w) (nodes D k (w + 2 ^ k)))
