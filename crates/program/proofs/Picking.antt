-- The loop that picks the chosen rows of a column. Assumes nothing.
use mathlib.Core.Path.{◌≡◌, refl, sym, ap, ◌∙◌}
use mathlib.Core.Bool.{Bool, true, false, cond, not, ◌&&◌}
use mathlib.Core.List.{List, [], ◌∷◌, map}
use Prim.Native.Nat.{ℕ, ◌+◌, ◌/◌, ◌^◌, ◌≤◌, ◌<◌}
use native.Mathlib.Nat.{zero-add}
use native.Mathlib.Numerals.{add-one}
use native.Mathlib.Omega.{arith}
use lib.Bits.{bit_and, and_mask}
use lib.Dec.{eqb, ltb}
use lib.ListN.{length, get_or, set, replicate, length-set, length-replicate, length-map}
use lib.Seq.{sets, sets-eq}
use Rattle.sets.specs.Lists.{sift, onward, below}
use Rattle.sets.proofs.Tests.{via_true, via_false}
use Rattle.sets.proofs.Lists.{onward_start, onward_step, onward_done}
use Rattle.sets.proofs.Digits.{bit_div}
use Rattle.lists.proofs.Padding.{over-padded}
use Rattle.program.specs.Only.{is_chosen, numbers, column_of, Picks}

-- the test of one row, as the code makes it
pub chosen_is : (w count k : ℕ) → ltb k count && eqb (bit_and (w / 2 ^ k) 1) 1 ≡ is_chosen w count k
unfolding is_chosen
chosen_is w count k = ap (λ b. ltb k count && b) (ap (λ x. eqb x 1) (and_mask (w / 2 ^ k) 1) ∙ sym (bit_div w k))

module _ (xs : List ℕ) (w count : ℕ) where
  -- the rows from k on that are chosen, and what stands there
  unfoldable pub left : ℕ → List ℕ
  left k = sift (is_chosen w count) (onward (λ i. i) 64 k)

  unfoldable pub words : ℕ → List ℕ
  words k = map (λ i. get_or xs i 0) (left k)

  left_start : left 0 ≡ numbers w count
  unfolding left numbers below
  left_start = ap (sift (is_chosen w count)) (onward_start (λ i. i) 64)

  left_step : (k : ℕ) → k < 64 → left k ≡ cond (is_chosen w count k) (k ∷ left (k + 1)) (left (k + 1))
  unfolding left sift
  left_step k h = ap (sift (is_chosen w count)) (onward_step (λ i. i) 64 k h)

  -- below k all that is chosen is picked, `at` words; what is left makes the whole
  pub record Picking (k at : ℕ) (out : List ℕ) : Type 0 where
    pub within : k ≤ 64
    pub few : at ≤ k
    pub long : length out ≡ 64
    pub whole : sets out at (words k) ≡ sets (replicate 64 0) 0 (words 0)
    pub number : at + length (left k) ≡ length (left 0)

  pub pick_start : Picking 0 0 (replicate 64 0)
  pick_start = record { within = omega arith; few = omega arith; long = length-replicate {A = ℕ} 64 0; whole = refl; number = zero-add _ }

  pub pick_skip : (k at : ℕ) (out : List ℕ) {r : Bool} → Picking k at out → k < 64 → r ≡ is_chosen w count k → not r ≡ true → Picking (k + 1) at out
  unfolding words
  pick_skip k at out s h e f =
      let q : left k ≡ left (k + 1) = rw (via_false e f) at (left_step k h) in
      record { within = omega arith; few = omega (arith, s.few); long = s.long; whole = rw (← q) s.whole; number = rw (← q) s.number }

  pub pick_one : (k at : ℕ) (out : List ℕ) {r : Bool} → Picking k at out → k < 64 → r ≡ is_chosen w count k → not r ≡ false → Picking (k + 1) (at + 1) (set out at (get_or xs k 0))
  unfolding words
  pick_one k at out s h e f =
      let q : left k ≡ k ∷ left (k + 1) = rw (via_true e f) at (left_step k h) in
      record {
        within = omega arith;
        few = omega (arith, s.few);
        long = length-set out at (get_or xs k 0) ∙ s.long;
        whole = rw (add-one at) (rw q at s.whole);
        number = omega (arith, ap length q, s.number);
      }

  pub pick_room : (k at : ℕ) (out : List ℕ) → Picking k at out → k < 64 → at < length out
  pick_room k at out s h = omega (arith, s.few, s.long)

  pub pick_done : (k at : ℕ) (out : List ℕ) → Picking k at out → 64 ≤ k → Picks xs (numbers w count) out at
  unfolding words left column_of sift
  pick_done k at out s h =
      let z : left k ≡ [] = ap (sift (is_chosen w count)) (onward_done (λ i. i) 64 k h) in
      let w : out ≡ sets (replicate 64 0) 0 (words 0) = rw z at s.whole in
      let n : at ≡ length (left 0) = omega (arith, s.number, ap length z) in
      let b : 0 + length (words 0) ≤ length (replicate {A = ℕ} 64 0) = omega (arith, length-replicate {A = ℕ} 64 0, length-map (left 0) (λ i. get_or xs i 0), s.within, s.few) in
      record {
        all = w ∙ sets-eq (words 0) (replicate 64 0) 0 b ∙ rw zero-add (over-padded 64 (words 0)) ∙ ap (column_of xs) left_start;
        number = n ∙ ap length left_start;
      }

  pub pick_all : (k at : ℕ) (out : List ℕ) → Picking k at out → 64 ≤ k → out ≡ column_of xs (numbers w count)
  pick_all k at out s h = (pick_done k at out s h).all
