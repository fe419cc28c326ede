-- What is taken of the stage that ends the run, and how the run begins: the ways that the last routines return. Assumes nothing.
use Prim.Native.Nat.{ℕ, ◌+◌, ◌≤◌, ◌<◌}
use lib.ListN.{length-take, length, take, set, length-set}
use lib.Seq.{take-suc-set}
use mathlib.Core.Bool.{Bool, true, false, cond}
use mathlib.Core.List.{List}
use mathlib.Core.Path.{◌≡◌, refl, sym, ap, ◌∙◌, subst}
use native.Mathlib.Omega.{arith}
use Rattle.sets.specs.Lists.{sift, Rising}
use Rattle.sets.proofs.Tests.{clash}
use Rattle.rising.specs.Slices.{Prefix}
use Rattle.operator.specs.Operator.{WordRule, stage}
use Rattle.minimal.specs.Minimal.{satisfies, least_in, minimals}
use Rattle.minimal.proofs.Selecting.{sift_short}
use Rattle.stages.specs.Run.{final_stage, ending, crowded, Iterated, Iterating}
use Rattle.stages.specs.Minimal.{minimal_models, Minimals}
use Rattle.stages.proofs.Bridge.{stage-rising}
use Rattle.stages.proofs.Run.{crowded_start, reached_start}

-- ---- the minimal models of the stage that ends the run
module _ (Q : List WordRule) (room : ℕ) where
  -- some stage was too large
  too_large : (a b : List ℕ) (r : ℕ) → crowded Q room ≡ true → r ≡ room + 1 → length a ≡ room → length b ≡ room → Minimals Q room r a b
  too_large a b r c e l k = record {
    count = e ∙ rw c;
    words = λ f. clash (crowded Q room) c f;
    fits = λ f. clash (crowded Q room) c f;
    first_length = l;
    second_length = k;
  }

  pub minimals-over : (a b : List ℕ) (r : ℕ) → Iterated Q room r a b → room < r → Minimals Q room r a b
  minimals-over a b r s h = go (crowded Q room) refl
    where
      go : (c : Bool) → crowded Q room ≡ c → Minimals Q room r a b
      go true c = too_large a b r c (s.count ∙ rw c) s.first_length s.second_length
      go false c = absurd (omega (arith, s.fits c))

  -- the stage that ends the run rises
  pub final_rising : (a b : List ℕ) (r : ℕ) → Iterated Q room r a b → r ≤ room → Rising (take r a)
  unfolding final_stage
  final_rising a b r s h = go (crowded Q room) refl
    where
      go : (c : Bool) → crowded Q room ≡ c → Rising (take r a)
      go true c = absurd (omega (arith, s.count ∙ ap (λ (x : Bool). cond x (room + 1) (length (final_stage Q))) c))
      go false c = subst Rising (sym (s.in_first c)) (stage-rising Q (ending Q))

  pub minimals_are : (a b out kept : List ℕ) (r n : ℕ) → Iterated Q room r a b → r ≤ room
      → Prefix (minimals (sift (satisfies Q) (take r a))) out n → length out ≡ length a → length kept ≡ length b → Minimals Q room n out kept
  unfolding minimal_models minimals
  minimals_are a b out kept r n s h q l k = go (crowded Q room) refl
    where
      go : (c : Bool) → crowded Q room ≡ c → Minimals Q room n out kept
      go true c = absurd (omega (arith, s.count ∙ ap (λ (x : Bool). cond x (room + 1) (length (final_stage Q))) c))
      go false c =
          let f : minimals (sift (satisfies Q) (take r a)) ≡ minimal_models Q = ap (λ (l : List ℕ). minimals (sift (satisfies Q) l)) (s.in_first c) in
          let few = sift_short (least_in (sift (satisfies Q) (take r a))) (sift (satisfies Q) (take r a)) in
          record {
            count = q.count ∙ ap length f ∙ sym (ap (λ (x : Bool). cond x (room + 1) (length (minimal_models Q))) c);
            words = λ e. q.words ∙ f;
            fits = λ e. omega (arith, q.count, few, sift_short (satisfies Q) (take r a), length-take r a);
            first_length = l ∙ s.first_length;
            second_length = k ∙ s.second_length;
          }

-- no room for stage 0
pub minimals-empty : (Q : List WordRule) (a b : List ℕ) → length b ≡ length a → length a ≡ 0 → Minimals Q (length a) 1 a b
minimals-empty Q a b l h = too_large Q (length a) a b 1 (crowded_start Q (length a) h) (omega arith) refl l

pub minimals_as : (Q : List WordRule) (a out other : List ℕ) (r : ℕ) → Minimals Q (length (set a 0 0)) r out other → Minimals Q (length a) r out other
minimals_as Q a out other r m = subst (λ (n : ℕ). Minimals Q n r out other) (length-set a 0 0) m

-- stage 0 stands in the first place
pub begins : (Q : List WordRule) (a b : List ℕ) → (length a ≡ 0 → ⊥) → length b ≡ length a → Iterating Q (set a 0 0) 1 b 0
unfolding stage
begins Q a b h l =
    let e : length (set a 0 0) ≡ length a = length-set a 0 0 in
    record {
      inside = omega (arith, h);
      long = l ∙ sym e;
      is = take-suc-set a 0 0 (omega (arith, h));
      reached = reached_start Q (length (set a 0 0)) (omega (arith, h));
    }
