-- From hit to hit: the first one from a word on, and how a run goes on behind it. Assumes nothing.
use Rattle.std.specs.Prelude.{Ok}
use mathlib.Core.Path.{◌≡◌, refl, sym, ap, ◌∙◌}
use mathlib.Core.Bool.{Bool, true, false, cond}
use mathlib.Core.List.{List, [], ◌∷◌, ◌++◌}
use Prim.Native.Nat.{ℕ, zero, suc, ◌+◌, ◌^◌, ◌≤◌, ◌<◌}
use native.Mathlib.Nat.{pow-suc}
use native.Mathlib.Omega.{arith}
use lib.Dec.{ltb}
use lib.Pow.{pow_pos}
use lib.ListN.{length, set}
use borrow.Author.Tests.{lt-ltb, le-ltb, ltb-true, ltb-false}
use Rattle.program.specs.declared.Outcome.TheVariants.{Full, Spent}
use Rattle.tree.specs.Tree.{Node, node, Dead, nodes}
use Rattle.tree.specs.Answer.{answer}
use Rattle.seek.specs.Seek.{no_leaf, spent, from_word, sought, after}
use Rattle.tree.proofs.Machine.{state, on, step, runs, runs-ended, step_spent, step_miss, step_hit, step_full}

-- ---- every node of xs passes a test of its word
unfoldable pub All : (ℕ → Type 0) → List Node → Type 0
All p [] = Unit {0}
All p (x ∷ xs) = p x.word × All p xs

pub all_append : (p : ℕ → Type 0) (xs ys : List Node) → All p xs → All p ys → All p (xs ++ ys)
unfolding All
all_append p [] ys a b = b
all_append p (x ∷ xs) ys a b = (a.0, all_append p xs ys a.1 b)

pub all_map : (p q : ℕ → Type 0) (f : (w : ℕ) → p w → q w) (xs : List Node) → All p xs → All q xs
unfolding All
all_map p q f [] a = tt
all_map p q f (x ∷ xs) a = (f x.word a.0, all_map p q f xs a.1)

pub all-from_word : (p : ℕ → Type 0) (x : ℕ) (xs : List Node) → All p xs → All p (from_word x xs)
unfolding All from_word
all-from_word p x [] a = tt
all-from_word p x (y ∷ ys) a = go (ltb y.word x) (all-from_word p x ys a.1)
  where
    go : (b : Bool) → All p (from_word x ys) → All p (cond b (from_word x ys) (y ∷ from_word x ys))
    go true r = r
    go false r = (a.0, r)

-- the words below a node
pub nodes_between : (D : Dead) (k w : ℕ) → All (λ u. (w ≤ u) × (u < w + 2 ^ k)) (nodes D k w)
unfolding nodes All
nodes_between D zero w = ((omega arith, omega arith), tt)
nodes_between D (suc k) w = ((omega arith, omega (arith, pow_pos (suc k))), go (D (suc k) w) (nodes_between D k w) (nodes_between D k (w + 2 ^ k)))
  where
    go : (b : Bool) → All (λ u. (w ≤ u) × (u < w + 2 ^ k)) (nodes D k w) → All (λ u. (w + 2 ^ k ≤ u) × (u < w + 2 ^ k + 2 ^ k)) (nodes D k (w + 2 ^ k))
        → All (λ u. (w ≤ u) × (u < w + 2 ^ suc k)) (cond b [] (nodes D k w ++ nodes D k (w + 2 ^ k)))
    go true p q = tt
    go false p q = all_append _ (nodes D k w) (nodes D k (w + 2 ^ k))
        (all_map _ _ (λ u a. (omega arith, omega (arith, pow-suc 2 k))) (nodes D k w) p)
        (all_map _ _ (λ u a. (omega arith, omega (arith, pow-suc 2 k))) (nodes D k (w + 2 ^ k)) q)

-- ---- fromWord
pub from_word-append : (x : ℕ) (xs ys : List Node) → from_word x (xs ++ ys) ≡ from_word x xs ++ from_word x ys
unfolding from_word
from_word-append x [] ys = refl
from_word-append x (y ∷ xs) ys = go (ltb y.word x) (from_word-append x xs ys)
  where
    go : (b : Bool) → from_word x (xs ++ ys) ≡ from_word x xs ++ from_word x ys
        → cond b (from_word x (xs ++ ys)) (y ∷ from_word x (xs ++ ys)) ≡ cond b (from_word x xs) (y ∷ from_word x xs) ++ from_word x ys
    go true e = e
    go false e = rw e

pub from_word_all : (x : ℕ) (xs : List Node) → All (λ u. x ≤ u) xs → from_word x xs ≡ xs
unfolding from_word All
from_word_all x [] a = refl
from_word_all x (y ∷ ys) a = rw (le-ltb y.word x a.0, from_word_all x ys a.1)

pub from_word_none : (x : ℕ) (xs : List Node) → All (λ u. u < x) xs → from_word x xs ≡ []
unfolding from_word All
from_word_none x [] a = refl
from_word_none x (y ∷ ys) a = rw (lt-ltb y.word x a.0, from_word_none x ys a.1)

-- ---- the search and what it seeks
module _ (hit : Node → Bool) (A : ℕ) where
  pub sought-append : (xs ys : List Node) (v : ℕ) → All (λ u. u < 2 ^ 24) xs → sought hit A xs v ≡ no_leaf
      → (sought hit A (xs ++ ys) v ≡ sought hit A ys (after hit A xs v)) × (after hit A (xs ++ ys) v ≡ after hit A ys (after hit A xs v))
  unfolding sought after All
  sought-append [] ys v a e = (refl, refl)
  sought-append (x ∷ xs) ys v a e = go (ltb v A) (hit x) e (sought-append xs ys (v + 1) a.1)
    where
      go : (b c : Bool) → cond b (cond c x.word (sought hit A xs (v + 1))) spent ≡ no_leaf
          → (sought hit A xs (v + 1) ≡ no_leaf
          → (sought hit A (xs ++ ys) (v + 1) ≡ sought hit A ys (after hit A xs (v + 1))) × (after hit A (xs ++ ys) (v + 1) ≡ after hit A ys (after hit A xs (v + 1))))
          → (cond b (cond c x.word (sought hit A (xs ++ ys) (v + 1))) spent ≡ sought hit A ys (cond b (cond c (v + 1) (after hit A xs (v + 1))) v))
          × (cond b (cond c (v + 1) (after hit A (xs ++ ys) (v + 1))) v ≡ after hit A ys (cond b (cond c (v + 1) (after hit A xs (v + 1))) v))
      go true true e r = absurd (omega (arith, a.0))
      go true false e r = r e
      go false c e r = absurd (omega arith)

  pub sought_first : (xs ys : List Node) (v : ℕ) → (sought hit A xs v ≡ no_leaf → ⊥)
      → (sought hit A (xs ++ ys) v ≡ sought hit A xs v) × (after hit A (xs ++ ys) v ≡ after hit A xs v)
  unfolding sought after
  sought_first [] ys v e = absurd (e refl)
  sought_first (x ∷ xs) ys v e = go (ltb v A) (hit x) e (sought_first xs ys (v + 1))
    where
      go : (b c : Bool) → (cond b (cond c x.word (sought hit A xs (v + 1))) spent ≡ no_leaf → ⊥)
          → ((sought hit A xs (v + 1) ≡ no_leaf → ⊥) → (sought hit A (xs ++ ys) (v + 1) ≡ sought hit A xs (v + 1)) × (after hit A (xs ++ ys) (v + 1) ≡ after hit A xs (v + 1)))
          → (cond b (cond c x.word (sought hit A (xs ++ ys) (v + 1))) spent ≡ cond b (cond c x.word (sought hit A xs (v + 1))) spent)
          × (cond b (cond c (v + 1) (after hit A (xs ++ ys) (v + 1))) v ≡ cond b (cond c (v + 1) (after hit A xs (v + 1))) v)
      go true true e r = (refl, refl)
      go true false e r = r e
      go false c e r = (refl, refl)

-- ---- the words of a tree do not fall, and rise behind a leaf
unfoldable pub Ordered : List Node → Type 0
Ordered [] = Unit {0}
Ordered (x ∷ xs) = All (λ u. x.word ≤ u) xs × (x.undecided ≡ 0 → All (λ u. x.word < u) xs) × Ordered xs

ordered_append : (c : ℕ) (xs ys : List Node) → All (λ u. u < c) xs → All (λ u. c ≤ u) ys → Ordered xs → Ordered ys → Ordered (xs ++ ys)
unfolding Ordered All
ordered_append c [] ys a b p q = q
ordered_append c (x ∷ xs) ys a b p q = (
  all_append _ xs ys p.0 (all_map _ _ (λ u h. omega (arith, a.0)) ys b),
  λ z. all_append _ xs ys (p.1 z) (all_map _ _ (λ u h. omega (arith, a.0)) ys b),
  ordered_append c xs ys a.1 b p.2 q,
)

pub ordered_nodes : (D : Dead) (k w : ℕ) → Ordered (nodes D k w)
unfolding nodes Ordered All
ordered_nodes D zero w = (tt, λ z. tt, tt)
ordered_nodes D (suc k) w = go (D (suc k) w) (ordered_nodes D k w) (ordered_nodes D k (w + 2 ^ k))
  where
    go : (b : Bool) → Ordered (nodes D k w) → Ordered (nodes D k (w + 2 ^ k)) → Ordered (node (suc k) w ∷ cond b [] (nodes D k w ++ nodes D k (w + 2 ^ k)))
    go true p q = (tt, λ z. tt, tt)
    go false p q = (
      all_append _ (nodes D k w) (nodes D k (w + 2 ^ k))
          (all_map _ _ (λ u h. h.0) (nodes D k w) (nodes_between D k w))
          (all_map _ _ (λ u h. omega arith) (nodes D k (w + 2 ^ k)) (nodes_between D k (w + 2 ^ k))),
      λ z. absurd (omega arith),
      ordered_append (w + 2 ^ k) (nodes D k w) (nodes D k (w + 2 ^ k))
          (all_map _ _ (λ u h. h.1) (nodes D k w) (nodes_between D k w))
          (all_map _ _ (λ u h. h.0) (nodes D k (w + 2 ^ k)) (nodes_between D k (w + 2 ^ k))) p q,
    )

pub ordered_from_word : (x : ℕ) (xs : List Node) → Ordered xs → Ordered (from_word x xs)
unfolding Ordered from_word
ordered_from_word x [] p = tt
ordered_from_word x (y ∷ ys) p = go (ltb y.word x) (ordered_from_word x ys p.2)
  where
    go : (b : Bool) → Ordered (from_word x ys) → Ordered (cond b (from_word x ys) (y ∷ from_word x ys))
    go true r = r
    go false r = (all-from_word _ x ys p.0, λ z. all-from_word _ x ys (p.1 z), r)

-- what is left from y on is what is left of it from z on
pub from_word-from_word : (x z : ℕ) (xs : List Node) → x ≤ z → from_word z (from_word x xs) ≡ from_word z xs
unfolding from_word
from_word-from_word x z [] h = refl
from_word-from_word x z (y ∷ ys) h = go (ltb y.word x) refl (from_word-from_word x z ys h)
  where
    go : (b : Bool) → ltb y.word x ≡ b → from_word z (from_word x ys) ≡ from_word z ys
        → from_word z (cond b (from_word x ys) (y ∷ from_word x ys)) ≡ cond (ltb y.word z) (from_word z ys) (y ∷ from_word z ys)
    go true t e = let m : y.word < x = ltb-true _ _ t in rw (lt-ltb y.word z (omega arith)) e
    go false t e = rw e

pub all_from : (x : ℕ) (xs : List Node) → All (λ u. x ≤ u) (from_word x xs)
unfolding from_word All
all_from x [] = tt
all_from x (y ∷ ys) = go (ltb y.word x) refl (all_from x ys)
  where
    go : (b : Bool) → ltb y.word x ≡ b → All (λ u. x ≤ u) (from_word x ys) → All (λ u. x ≤ u) (cond b (from_word x ys) (y ∷ from_word x ys))
    go true t r = r
    go false t r = (ltb-false _ _ t, r)

behind : (x : Node) (xs : List Node) → All (λ u. x.word < u) xs → from_word (x.word + 1) (x ∷ xs) ≡ xs
unfolding from_word
behind x xs a = rw (lt-ltb x.word (x.word + 1) (omega arith)) (from_word_all (x.word + 1) xs (all_map _ _ (λ u m. omega arith) xs a))

-- ---- one turn: no hit, the node limit spent, a hit
module _ (hit : Node → Bool) (A n : ℕ) (l : List ℕ) where
  pub runs_none : (xs : List Node) (v : ℕ) → All (λ u. u < 2 ^ 24) xs → sought hit A xs v ≡ no_leaf → runs hit A xs (on n v l) ≡ on n (after hit A xs v) l
  unfolding runs sought after All
  runs_none [] v a e = refl
  runs_none (x ∷ xs) v a e = go (ltb v A) (hit x) refl refl e (runs_none xs (v + 1) a.1)
    where
      go : (b c : Bool) → ltb v A ≡ b → hit x ≡ c → cond b (cond c x.word (sought hit A xs (v + 1))) spent ≡ no_leaf
          → (sought hit A xs (v + 1) ≡ no_leaf → runs hit A xs (on n (v + 1) l) ≡ on n (after hit A xs (v + 1)) l)
          → runs hit A xs (step hit A x (on n v l)) ≡ on n (cond b (cond c (v + 1) (after hit A xs (v + 1))) v) l
      go true true p q e r = absurd (omega (arith, a.0))
      go true false p q e r = ap (runs hit A xs) (step_miss hit A x n v l (ltb-true _ _ p) q) ∙ r e
      go false c p q e r = absurd (omega arith)

  pub runs-spent : (xs : List Node) (v : ℕ) → All (λ u. u < 2 ^ 24) xs → sought hit A xs v ≡ spent → runs hit A xs (on n v l) ≡ state (answer (Ok Spent) n (after hit A xs v)) l
  unfolding runs sought after All
  runs-spent [] v a e = absurd (omega arith)
  runs-spent (x ∷ xs) v a e = go (ltb v A) (hit x) refl refl e (runs-spent xs (v + 1) a.1)
    where
      go : (b c : Bool) → ltb v A ≡ b → hit x ≡ c → cond b (cond c x.word (sought hit A xs (v + 1))) spent ≡ spent
          → (sought hit A xs (v + 1) ≡ spent → runs hit A xs (on n (v + 1) l) ≡ state (answer (Ok Spent) n (after hit A xs (v + 1))) l)
          → runs hit A xs (step hit A x (on n v l)) ≡ state (answer (Ok Spent) n (cond b (cond c (v + 1) (after hit A xs (v + 1))) v)) l
      go true true p q e r = absurd (omega (arith, a.0))
      go true false p q e r = ap (runs hit A xs) (step_miss hit A x n v l (ltb-true _ _ p) q) ∙ r e
      go false c p q e r = ap (runs hit A xs) (step_spent hit A x n v l (ltb-false _ _ p)) ∙ runs-ended hit A xs (state (answer (Ok Spent) n v) l) refl

  pub runs-full : (xs : List Node) (v : ℕ) → (sought hit A xs v ≡ no_leaf → ⊥) → (sought hit A xs v ≡ spent → ⊥) → length l ≤ n
      → runs hit A xs (on n v l) ≡ state (answer (Ok Full) n (after hit A xs v)) l
  unfolding runs sought after
  runs-full [] v e f h = absurd (e refl)
  runs-full (x ∷ xs) v e f h = go (ltb v A) (hit x) refl refl e f (λ e f. runs-full xs (v + 1) e f h)
    where
      go : (b c : Bool) → ltb v A ≡ b → hit x ≡ c → (cond b (cond c x.word (sought hit A xs (v + 1))) spent ≡ no_leaf → ⊥) → (cond b (cond c x.word (sought hit A xs (v + 1))) spent ≡ spent → ⊥)
          → ((sought hit A xs (v + 1) ≡ no_leaf → ⊥) → (sought hit A xs (v + 1) ≡ spent → ⊥) → runs hit A xs (on n (v + 1) l) ≡ state (answer (Ok Full) n (after hit A xs (v + 1))) l)
          → runs hit A xs (step hit A x (on n v l)) ≡ state (answer (Ok Full) n (cond b (cond c (v + 1) (after hit A xs (v + 1))) v)) l
      go true true p q e f r = ap (runs hit A xs) (step_full hit A x n v l (ltb-true _ _ p) q h) ∙ runs-ended hit A xs (state (answer (Ok Full) n (v + 1)) l) refl
      go true false p q e f r = ap (runs hit A xs) (step_miss hit A x n v l (ltb-true _ _ p) q) ∙ r e f
      go false c p q e f r = absurd (f refl)

  -- what is so of every word, and what is so of the word of every hit, is so of the first hit
  pub sought_holds : (p q : ℕ → Type 0) → ((x : Node) → hit x ≡ true → q x.word) → (xs : List Node) (v : ℕ) → All p xs
      → (sought hit A xs v ≡ no_leaf → ⊥) → (sought hit A xs v ≡ spent → ⊥) → p (sought hit A xs v) × q (sought hit A xs v)
  unfolding sought All
  sought_holds p q h [] v a e f = absurd (e refl)
  sought_holds p q h (x ∷ xs) v a e f = go (ltb v A) (hit x) refl e f (sought_holds p q h xs (v + 1) a.1)
    where
      go : (b d : Bool) → hit x ≡ d → (cond b (cond d x.word (sought hit A xs (v + 1))) spent ≡ no_leaf → ⊥) → (cond b (cond d x.word (sought hit A xs (v + 1))) spent ≡ spent → ⊥)
          → ((sought hit A xs (v + 1) ≡ no_leaf → ⊥) → (sought hit A xs (v + 1) ≡ spent → ⊥) → p (sought hit A xs (v + 1)) × q (sought hit A xs (v + 1)))
          → p (cond b (cond d x.word (sought hit A xs (v + 1))) spent) × q (cond b (cond d x.word (sought hit A xs (v + 1))) spent)
      go true true i e f r = (a.0, h x i)
      go true false i e f r = r e f
      go false d i e f r = absurd (f refl)

  -- it is written, and the search goes on behind it
  pub runs_found : (xs : List Node) (v : ℕ) → ((x : Node) → hit x ≡ true → x.undecided ≡ 0) → Ordered xs → (sought hit A xs v ≡ no_leaf → ⊥) → (sought hit A xs v ≡ spent → ⊥) → n < length l
      → runs hit A xs (on n v l) ≡ runs hit A (from_word (sought hit A xs v + 1) xs) (on (n + 1) (after hit A xs v) (set l n (sought hit A xs v)))
  unfolding runs sought after Ordered from_word
  runs_found [] v i o e f h = absurd (e refl)
  runs_found (x ∷ xs) v i o e f h = go (ltb v A) (hit x) refl refl e f (λ e f. runs_found xs (v + 1) i o.2 e f h)
    where
      go : (b c : Bool) → ltb v A ≡ b → hit x ≡ c → (cond b (cond c x.word (sought hit A xs (v + 1))) spent ≡ no_leaf → ⊥) → (cond b (cond c x.word (sought hit A xs (v + 1))) spent ≡ spent → ⊥)
          → ((sought hit A xs (v + 1) ≡ no_leaf → ⊥) → (sought hit A xs (v + 1) ≡ spent → ⊥)
          → runs hit A xs (on n (v + 1) l) ≡ runs hit A (from_word (sought hit A xs (v + 1) + 1) xs) (on (n + 1) (after hit A xs (v + 1)) (set l n (sought hit A xs (v + 1)))))
          → runs hit A xs (step hit A x (on n v l))
          ≡ runs hit A (from_word (cond b (cond c x.word (sought hit A xs (v + 1))) spent + 1) (x ∷ xs))
          (on (n + 1) (cond b (cond c (v + 1) (after hit A xs (v + 1))) v) (set l n (cond b (cond c x.word (sought hit A xs (v + 1))) spent)))
      go true true p q e f r =
          ap (runs hit A xs) (step_hit hit A x n v l (ltb-true _ _ p) q h)
          ∙ ap (λ ys. runs hit A ys (on (n + 1) (v + 1) (set l n x.word))) (sym (behind x xs (o.1 (i x q))))
      go true false p q e f r =
          ap (runs hit A xs) (step_miss hit A x n v l (ltb-true _ _ p) q) ∙ r e f
          ∙ rw (lt-ltb x.word (sought hit A xs (v + 1) + 1) (omega (arith, (sought_holds (λ u. x.word ≤ u) (λ u. Unit {0}) (λ y i. tt) xs (v + 1) o.0 e f).0)))
      go false c p q e f r = absurd (f refl)
