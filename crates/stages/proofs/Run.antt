-- The run of the stages: where it ends, and whether the working room holds them. Assumes nothing.
use Prim.Native.Nat.{ℕ, suc, ◌+◌, ◌-◌, ◌≤◌, ◌<◌}
use borrow.Author.Tests.{lt-ltb, le-ltb}
use lib.Dec.{T, ltb}
use lib.ListN.{length}
use mathlib.Core.Bool.{Bool, true, false}
use mathlib.Core.List.{List}
use mathlib.Core.Path.{◌≡◌, sym, ap, ◌∙◌, subst}
use native.Mathlib.Decide.{dec_le, dec_lt}
use native.Mathlib.Omega.{arith}
use Rattle.sets.specs.Lists.{any_of, below}
use Rattle.sets.specs.Least.{least}
use Rattle.sets.proofs.Tests.{T_true, clash}
use Rattle.sets.proofs.Lists.{below_in, in_below, in_some, some_none}
use Rattle.sets.proofs.Least.{least_hit, least_is, least_late, least_le, least_miss, least_none}
use Rattle.lists.specs.Bytes.{same}
use Rattle.lists.proofs.Loops.{same_self, same_true}
use Rattle.stages.proofs.Bridge.{stage_rests}
use Rattle.operator.specs.Operator.{WordRule, stage}
use Rattle.stages.specs.Run.{latest_rest, resting, ending, EndsRun, final_stage, crowded, Reached}

pub same_eq : (a b : List ℕ) → T (same a b) → a ≡ b
same_eq a b t = same_true a b (T_true (same a b) t)

some_hit : (p : ℕ → Bool) (n i : ℕ) → i ≤ n → p i ≡ true → any_of p (below (suc n)) ≡ true
some_hit p n i h t = in_some p (below (suc n)) i (below_in (suc n) i (omega arith)) t

some_miss : (p : ℕ → Bool) (n : ℕ) → ((i : ℕ) → i ≤ n → p i ≡ false) → any_of p (below (suc n)) ≡ false
some_miss p n f = some_none p (below (suc n)) (λ i m. f i (let h = in_below (suc n) i m in omega arith))

-- ---- the stage that ends the run
module _ (Q : List WordRule) where
  abbrev still : ℕ → Bool
  still k = same (stage Q k) (stage Q (suc k))

  pub rests_at : stage Q (resting Q) ≡ stage Q (suc (resting Q))
  unfolding resting
  rests_at = go (dec_lt (least still latest_rest) latest_rest)
    where
      go : Dec (least still latest_rest < latest_rest) → stage Q (least still latest_rest) ≡ stage Q (suc (least still latest_rest))
      go (yes h) = same_true _ _ (least_hit still latest_rest h)
      go (no h) = let e : latest_rest ≡ least still latest_rest = omega (arith, h, least_le still latest_rest) in subst (λ (n : ℕ). stage Q n ≡ stage Q (suc n)) e (stage_rests Q)

  -- no earlier stage equals its successor
  moves_before : (k : ℕ) → k < resting Q → stage Q k ≡ stage Q (suc k) → ⊥
  unfolding resting
  moves_before k h e = clash (still k) (ap (same (stage Q k)) (sym e) ∙ same_self (stage Q k)) (least_miss still latest_rest k h)

  -- a stage that equals its successor is not before it
  rests_by : (k : ℕ) → stage Q k ≡ stage Q (suc k) → resting Q ≤ k
  rests_by k e = go (dec_lt k (resting Q))
    where
      go : Dec (k < resting Q) → resting Q ≤ k
      go (yes h) = absurd (moves_before k h e)
      go (no h) = omega (arith, h)

  pub run_ends : (W : ℕ) → stage Q (W + 1) ≡ stage Q (suc (W + 1)) → EndsRun Q W (ending Q)
  unfolding ending
  run_ends W e = record {
    ends = (omega arith, ap (stage Q) (omega arith) ∙ sym rests_at ∙ ap (stage Q) (omega arith));
    first = λ i h b. moves_before (i - 1) (omega arith) (sym b.1 ∙ ap (stage Q) (omega (arith, b.0)));
    latest = let h = rests_by (W + 1) e in omega arith;
  }

-- ---- a run that has come to stage k
pub reached_start : (Q : List WordRule) (room : ℕ) → 0 < room → Reached Q room 0
unfolding stage
reached_start Q room h = record {
  most = omega arith;
  early = λ i l. absurd (omega arith);
  roomy = λ i l. let e : i ≡ 0 = omega arith in subst (λ (n : ℕ). length (stage Q n) ≤ room) (sym e) (omega arith);
}

-- room for nothing has none for stage 0
pub crowded_start : (Q : List WordRule) (room : ℕ) → room ≡ 0 → crowded Q room ≡ true
unfolding crowded stage
crowded_start Q room h = some_hit (λ k. ltb room (length (stage Q k))) (ending Q) 0 (omega arith) (lt-ltb room 1 (omega arith))

module _ (Q : List WordRule) (room k : ℕ) (r : Reached Q room k) where
  unmoved : same (stage Q k) (stage Q (suc k)) ≡ false → k < latest_rest
  unmoved f = go (dec_lt k latest_rest)
    where
      go : Dec (k < latest_rest) → k < latest_rest
      go (yes h) = h
      go (no h) =
          let e : k ≡ latest_rest = omega (arith, h, r.most) in
          let t : same (stage Q latest_rest) (stage Q (suc latest_rest)) ≡ true = ap (λ (l : List ℕ). same (stage Q latest_rest) l) (sym (stage_rests Q)) ∙ same_self (stage Q latest_rest) in
          let u : same (stage Q latest_rest) (stage Q (suc latest_rest)) ≡ false = subst (λ (n : ℕ). same (stage Q n) (stage Q (suc n)) ≡ false) e f in
          absurd (let z : ◌≡◌ {A = ℕ} 0 1 = cc in omega arith)

  -- the stage has not come to rest: on to the next
  pub reached_next : same (stage Q k) (stage Q (suc k)) ≡ false → length (stage Q (suc k)) ≤ room → Reached Q room (k + 1)
  reached_next f h = record {
    most = let u = unmoved f in omega arith;
    early = λ i l. go i (dec_lt i k) l;
    roomy = λ i l. wide i (dec_le i k) l;
  }
    where
      go : (i : ℕ) → Dec (i < k) → i < k + 1 → same (stage Q i) (stage Q (suc i)) ≡ false
      go i (yes p) l = r.early i p
      go i (no n) l = let e : k ≡ i = omega (arith, n) in subst (λ (m : ℕ). same (stage Q m) (stage Q (suc m)) ≡ false) e f

      wide : (i : ℕ) → Dec (i ≤ k) → i ≤ k + 1 → length (stage Q i) ≤ room
      wide i (yes p) l = r.roomy i p
      wide i (no n) l = let e : suc k ≡ i = omega (arith, n) in subst (λ (m : ℕ). length (stage Q m) ≤ room) e h

  pub reached_less : same (stage Q k) (stage Q (suc k)) ≡ false → k < latest_rest
  reached_less f = unmoved f

  -- it has
  pub rests : same (stage Q k) (stage Q (suc k)) ≡ true → resting Q ≡ k
  unfolding resting
  rests t = go (dec_lt k latest_rest)
    where
      go : Dec (k < latest_rest) → least (λ i. same (stage Q i) (stage Q (suc i))) latest_rest ≡ k
      go (yes h) = least_is (λ i. same (stage Q i) (stage Q (suc i))) latest_rest k h t (λ j b. r.early j b)
      go (no h) = least_none (λ i. same (stage Q i) (stage Q (suc i))) latest_rest (λ i b. r.early i (omega (arith, h))) ∙ omega (arith, h, r.most)

  pub uncrowded : same (stage Q k) (stage Q (suc k)) ≡ true → length (stage Q (suc k)) ≤ room → crowded Q room ≡ false
  unfolding crowded ending
  uncrowded t h = some_miss (λ i. ltb room (length (stage Q i))) (suc (resting Q)) (λ i l. le-ltb room (length (stage Q i)) (wide i (dec_le i k) (omega (arith, rests t))))
    where
      wide : (i : ℕ) → Dec (i ≤ k) → i ≤ suc k → length (stage Q i) ≤ room
      wide i (yes p) l = r.roomy i p
      wide i (no n) l = let e : suc k ≡ i = omega (arith, n) in subst (λ (m : ℕ). length (stage Q m) ≤ room) e h

  pub final_is : same (stage Q k) (stage Q (suc k)) ≡ true → final_stage Q ≡ stage Q (suc k)
  unfolding final_stage ending
  final_is t = ap (λ (n : ℕ). stage Q (suc n)) (rests t)

  -- the run rests no earlier
  pub rests_from : k ≤ resting Q
  unfolding resting
  rests_from = least_late (λ i. same (stage Q i) (stage Q (suc i))) latest_rest k r.most (λ j b. r.early j b)

  -- the next stage is too large, and the run would come to it
  pub crowds : room < length (stage Q (suc k)) → crowded Q room ≡ true
  unfolding crowded ending
  crowds h = some_hit (λ i. ltb room (length (stage Q i))) (suc (resting Q)) (suc k) (omega (arith, rests_from)) (lt-ltb room (length (stage Q (suc k))) h)

-- the last stage is too large; none is
pub crowded_last : (Q : List WordRule) (room : ℕ) → room < length (final_stage Q) → crowded Q room ≡ true
unfolding crowded final_stage
crowded_last Q room h = some_hit (λ i. ltb room (length (stage Q i))) (ending Q) (ending Q) (omega arith) (lt-ltb room (length (stage Q (ending Q))) h)

pub crowded_not : (Q : List WordRule) (room : ℕ) → ((i : ℕ) → i ≤ ending Q → length (stage Q i) ≤ room) → crowded Q room ≡ false
unfolding crowded
crowded_not Q room f = some_miss (λ i. ltb room (length (stage Q i))) (ending Q) (λ i l. le-ltb room (length (stage Q i)) (f i l))
