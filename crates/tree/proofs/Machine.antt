-- A run node by node: its state is the answer so far and the list; it ends in the answer that is read off the nodes. Assumes nothing.
use Rattle.program.specs.declared.Refusal.{Refusal}
use Rattle.std.specs.Prelude.{Ok, Result, Err}
use mathlib.Core.Path.{◌≡◌, refl, sym, ap, ◌∙◌}
use mathlib.Core.Bool.{Bool, true, false, cond}
use mathlib.Core.Logic.{◌⊎◌, ⊎_elim}
use mathlib.Core.List.{List, [], ◌∷◌, ◌++◌}
use Prim.Native.Nat.{ℕ, zero, suc, ◌+◌, ◌≤◌, ◌<◌}
use native.Mathlib.Nat.{zero-add, add-zero}
use native.Mathlib.Numerals.{add-one}
use native.Mathlib.Omega.{arith}
use lib.Dec.{ltb, leb-suc-zero, leb-suc-suc}
use lib.ListN.{length, take, drop, set, length-set, length-take, length-drop, take-append-drop}
use lib.Seq.{sets, take_all, sets-eq, length-take-le}
use borrow.Author.Tests.{lt-ltb, le-ltb, ltb-true, ltb-false}
use Rattle.sets.specs.Least.{least, least_from}
use Rattle.sets.proofs.Tests.{dec}
use Rattle.sets.proofs.Least.{least_suc}
use Rattle.program.specs.declared.Outcome.{Outcome}
use Rattle.program.specs.declared.Outcome.TheVariants.{Complete, Full, Spent}
use Rattle.tree.specs.Tree.{Node, hits}
use Rattle.tree.specs.Answer.{SearchAnswer, answer, overfull, full_at, run_answer, listing, run_exit}

pub record State : Type 0 where
  pub so_far : SearchAnswer
  pub list : List ℕ

abbrev pub state : SearchAnswer → List ℕ → State
state a l = record { so_far = a; list = l }

-- the run goes on while nothing has ended it
abbrev pub goes_on : Result Outcome Refusal → Bool
goes_on (Ok Complete) = true
goes_on (Ok Full) = false
goes_on (Ok Spent) = false
goes_on (Err r) = false

-- a run that goes on, with n hits written and v nodes visited
abbrev pub on : ℕ → ℕ → List ℕ → State
on n v l = state (answer (Ok Complete) n v) l

-- the n-th hit w with v nodes visited: it is written, or ends the run where the list is full
unfoldable pub keep : ℕ → ℕ → ℕ → List ℕ → State
keep w n v l = cond (ltb n (length l)) (on (n + 1) v (set l n w)) (state (answer (Ok Full) n v) l)

module _ (hit : Node → Bool) (A : ℕ) where
  -- at the node x, with n hits written and v nodes visited
  unfoldable pub look : Node → ℕ → ℕ → List ℕ → State
  unfolding keep
  look x n v l = cond (ltb v A) (cond (hit x) (keep x.word n (v + 1) l) (on n (v + 1) l)) (state (answer (Ok Spent) n v) l)

  unfoldable pub step : Node → State → State
  unfolding look
  step x s = cond (goes_on s.so_far.outcome) (look x s.so_far.written s.so_far.visited s.list) s

  unfoldable pub runs : List Node → State → State
  unfolding step
  runs [] s = s
  runs (x ∷ xs) s = runs xs (step x s)

  pub runs_append : (xs ys : List Node) (s : State) → runs (xs ++ ys) s ≡ runs ys (runs xs s)
  unfolding runs
  runs_append [] ys s = refl
  runs_append (x ∷ xs) ys s = runs_append xs ys (step x s)

  pub runs-ended : (xs : List Node) (s : State) → goes_on s.so_far.outcome ≡ false → runs xs s ≡ s
  unfolding runs step
  runs-ended [] s h = refl
  runs-ended (x ∷ xs) s h = rw h (runs-ended xs s h)

  -- ---- one node
  module _ (x : Node) (n v : ℕ) (l : List ℕ) where
    pub step_spent : A ≤ v → step x (on n v l) ≡ state (answer (Ok Spent) n v) l
    unfolding step look
    step_spent h = rw (le-ltb v A h)

    pub step_miss : v < A → hit x ≡ false → step x (on n v l) ≡ on n (v + 1) l
    unfolding step look
    step_miss h m = rw (lt-ltb v A h, m)

    pub step_hit : v < A → hit x ≡ true → n < length l → step x (on n v l) ≡ on (n + 1) (v + 1) (set l n x.word)
    unfolding step look keep
    step_hit h m r = rw (lt-ltb v A h, m, lt-ltb n (length l) r)

    pub step_full : v < A → hit x ≡ true → length l ≤ n → step x (on n v l) ≡ state (answer (Ok Full) n (v + 1)) l
    unfolding step look keep
    step_full h m r = rw (lt-ltb v A h, m, le-ltb n (length l) r)

-- ---- the node for which the list has no room
from_ext : (p q : ℕ → Bool) → ((j : ℕ) → p j ≡ q j) → (k i : ℕ) → least_from p k i ≡ least_from q k i
unfolding least_from
from_ext p q e zero i = refl
from_ext p q e (suc k) i = rw (e i, from_ext p q e k (suc i))

least_ext : (p q : ℕ → Bool) → ((j : ℕ) → p j ≡ q j) → (n : ℕ) → least p n ≡ least q n
unfolding least
least_ext p q e n = from_ext p q e n 0

module _ (hit : Node → Bool) (x : Node) (xs : List Node) where
  up_suc : (L : ℕ) → full_at hit (x ∷ xs) L ≡ suc (least (λ j. overfull hit (x ∷ xs) L (suc j)) (length xs))
  unfolding full_at overfull hits
  up_suc L = least_suc (overfull hit (x ∷ xs) L) (length xs) ∙ rw (leb-suc-zero L)

  up_miss : (L : ℕ) → hit x ≡ false → full_at hit (x ∷ xs) L ≡ suc (full_at hit xs L)
  unfolding full_at overfull hits
  up_miss L m = up_suc L ∙ ap suc (least_ext (λ j. overfull hit (x ∷ xs) L (suc j)) (overfull hit xs L) (λ j. rw m) (length xs))

  up_hit : (L : ℕ) → hit x ≡ true → full_at hit (x ∷ xs) (suc L) ≡ suc (full_at hit xs L)
  unfolding full_at overfull hits
  up_hit L m = up_suc (suc L)
      ∙ ap suc (least_ext (λ j. overfull hit (x ∷ xs) (suc L) (suc j)) (overfull hit xs L) (λ j. rw m (leb-suc-suc (suc L) (length (hits hit (take j xs))))) (length xs))

  at_once : (k : ℕ) → hit x ≡ true → least (λ j. overfull hit (x ∷ xs) 0 (suc j)) k ≡ 0
  unfolding least least_from overfull hits
  at_once zero m = refl
  at_once (suc k) m = rw m

  up_first : hit x ≡ true → full_at hit (x ∷ xs) 0 ≡ 1
  up_first m = up_suc 0 ∙ ap suc (at_once (length xs) m)

-- ---- the end of a run
module _ (hit : Node → Bool) (A : ℕ) where
  -- room for all, and a node limit for all
  all-nodes : (xs : List Node) (n v : ℕ) (l : List ℕ) → n + length (hits hit xs) ≤ length l → v + length xs ≤ A
      → runs hit A xs (on n v l) ≡ on (n + length (hits hit xs)) (v + length xs) (sets l n (hits hit xs))
  unfolding runs hits
  all-nodes [] n v l r h = rw (add-zero, add-zero)
  all-nodes (x ∷ xs) n v l r h = go (hit x) refl r (all-nodes xs)
    where
      go : (b : Bool) → hit x ≡ b → n + length (cond b (x.word ∷ hits hit xs) (hits hit xs)) ≤ length l
          → ((n v : ℕ) (l : List ℕ) → n + length (hits hit xs) ≤ length l → v + length xs ≤ A → runs hit A xs (on n v l) ≡ on (n + length (hits hit xs)) (v + length xs) (sets l n (hits hit xs)))
          → runs hit A xs (step hit A x (on n v l))
          ≡ on (n + length (cond b (x.word ∷ hits hit xs) (hits hit xs))) (v + suc (length xs)) (sets l n (cond b (x.word ∷ hits hit xs) (hits hit xs)))
      go true e r next =
          let k = length (hits hit xs) in
          rw (step_hit hit A x n v l (omega arith) e (omega arith)) (next (n + 1) (v + 1) (set l n x.word) (omega (arith, length-set l n x.word)) (omega arith)
          ∙ let p : n + 1 + k ≡ n + suc k = omega arith in let q : v + 1 + length xs ≡ v + suc (length xs) = omega arith in rw (p, q, add-one n))
      go false e r next =
          rw (step_miss hit A x n v l (omega arith) e) (next n (v + 1) l r (omega arith)
          ∙ let q : v + 1 + length xs ≡ v + suc (length xs) = omega arith in rw q)

  -- no room for one of them
  no_room : (xs : List Node) (a n v L : ℕ) (l : List ℕ) → n + L ≡ length l → A ≡ v + a → L < length (hits hit (take a xs))
      → runs hit A xs (on n v l) ≡ state (answer (Ok Full) (length l) (v + full_at hit xs L)) (sets l n (take L (hits hit (take a xs))))
  unfolding runs hits
  no_room [] zero n v L l r h f = absurd (omega arith)
  no_room [] (suc a) n v L l r h f = absurd (omega arith)
  no_room (x ∷ xs) zero n v L l r h f = absurd (omega arith)
  no_room (x ∷ xs) (suc a) n v L l r h f = go (hit x) refl L r f (no_room xs a)
    where
      go : (b : Bool) → hit x ≡ b → (L : ℕ) → n + L ≡ length l → L < length (cond b (x.word ∷ hits hit (take a xs)) (hits hit (take a xs)))
          → ((n v L : ℕ) (l : List ℕ) → n + L ≡ length l → A ≡ v + a → L < length (hits hit (take a xs))
          → runs hit A xs (on n v l) ≡ state (answer (Ok Full) (length l) (v + full_at hit xs L)) (sets l n (take L (hits hit (take a xs)))))
          → runs hit A xs (step hit A x (on n v l))
          ≡ state (answer (Ok Full) (length l) (v + full_at hit (x ∷ xs) L)) (sets l n (take L (cond b (x.word ∷ hits hit (take a xs)) (hits hit (take a xs)))))
      go true e zero r f next =
          let q : n ≡ length l = omega arith in
          rw (step_full hit A x n v l (omega arith) e (omega arith), runs-ended hit A xs (state (answer (Ok Full) n (v + 1)) l) refl, up_first hit x xs e, q)
      go true e (suc L) r f next =
          rw (step_hit hit A x n v l (omega arith) e (omega arith), up_hit hit x xs L e) (next (n + 1) (v + 1) L (set l n x.word)
          (omega (arith, length-set l n x.word)) (omega arith) (omega arith)
          ∙ let q : v + 1 + full_at hit xs L ≡ v + suc (full_at hit xs L) = omega arith in rw (q, add-one n, length-set l n x.word))
      go false e L r f next =
          rw (step_miss hit A x n v l (omega arith) e, up_miss hit x xs L e) (next n (v + 1) L l r (omega arith) f
          ∙ let q : v + 1 + full_at hit xs L ≡ v + suc (full_at hit xs L) = omega arith in rw q)

  -- a node is left when the node limit is spent
  spent_at : (xs : List Node) (n v : ℕ) (l : List ℕ) → 0 < length xs → A ≤ v → runs hit A xs (on n v l) ≡ state (answer (Ok Spent) n v) l
  unfolding runs
  spent_at [] n v l h s = absurd (omega arith)
  spent_at (x ∷ xs) n v l h s = rw (step_spent hit A x n v l s) (runs-ended hit A xs (state (answer (Ok Spent) n v) l) refl)

  some-nodes : (xs : List Node) (l : List ℕ) → length (hits hit (take A xs)) ≤ length l → A < length xs
      → runs hit A xs (on 0 0 l) ≡ state (answer (Ok Spent) (length (hits hit (take A xs))) A) (sets l 0 (hits hit (take A xs)))
  some-nodes xs l r h =
      let ys = take A xs in
      let e : length ys ≡ A = length-take-le A xs (omega arith) in
      let first : runs hit A ys (on 0 0 l) ≡ on (length (hits hit ys)) A (sets l 0 (hits hit ys)) = simp (zero-add, e) at (all-nodes ys 0 0 l (omega arith) (omega arith)) in
      ap (λ zs. runs hit A zs (on 0 0 l)) (sym (take-append-drop A xs)) ∙ runs_append hit A ys (drop A xs) (on 0 0 l)
      ∙ rw first (spent_at (drop A xs) (length (hits hit ys)) A (sets l 0 (hits hit ys)) (omega (arith, length-drop A xs)) (omega arith))

-- the list with the words ws at its start and the rest as it was
abbrev start_with : List ℕ → List ℕ → List ℕ
start_with ws l = ws ++ drop (length ws) l

at_start : (ws l : List ℕ) → length ws ≤ length l → sets l 0 ws ≡ start_with ws l
at_start ws l h = simp zero-add at (sets-eq ws l 0 (omega arith))

-- what the run leaves is what is read off the nodes
pub runs_answer : (hit : Node → Bool) (A : ℕ) (xs : List Node) (l : List ℕ)
    → runs hit A xs (on 0 0 l) ≡ state (run_answer hit xs A (length l)) (run_exit hit xs A l)
unfolding run_answer run_exit listing overfull
runs_answer hit A xs l = ⊎_elim full roomy (dec (ltb (length l) (length (hits hit (take A xs)))))
  where
    full : ltb (length l) (length (hits hit (take A xs))) ≡ true → runs hit A xs (on 0 0 l) ≡ state (run_answer hit xs A (length l)) (run_exit hit xs A l)
    full t =
        let f = ltb-true _ _ t in
        rw t (no_room hit A xs A 0 0 (length l) l (omega arith) (omega arith) f
        ∙ rw (zero-add, at_start (take (length l) (hits hit (take A xs))) l (omega (arith, length-take (length l) (hits hit (take A xs))))))

    ends : (b : Bool) → ltb A (length xs) ≡ b → length (hits hit (take A xs)) ≤ length l
        → runs hit A xs (on 0 0 l) ≡ state (cond b (answer (Ok Spent) (length (hits hit (take A xs))) A) (answer (Ok Complete) (length (hits hit (take A xs))) (length xs))) (start_with (hits hit (take A xs)) l)
    ends true s f = some-nodes hit A xs l f (ltb-true _ _ s) ∙ rw (at_start (hits hit (take A xs)) l f)
    ends false s f =
        let g : length xs ≤ A = ltb-false _ _ s in
        let e : take A xs ≡ xs = take_all A xs g in
        let f' : length (hits hit xs) ≤ length l = rw e at f in
        rw e (all-nodes hit A xs 0 0 l (omega arith) (omega arith) ∙ rw (zero-add, zero-add, at_start (hits hit xs) l f'))

    roomy : ltb (length l) (length (hits hit (take A xs))) ≡ false → runs hit A xs (on 0 0 l) ≡ state (run_answer hit xs A (length l)) (run_exit hit xs A l)
    roomy t =
        let f = ltb-false _ _ t in
        rw (t, take_all (length l) (hits hit (take A xs)) f) (ends (ltb A (length xs)) refl f)
