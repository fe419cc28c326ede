-- How a run over nodes ends: full, spent or complete, and the node at which it is full. Assumes nothing.
use Rattle.std.specs.Prelude.{Ok}
use mathlib.Core.Path.{◌≡◌, refl}
use mathlib.Core.Bool.{Bool, true, false, cond}
use mathlib.Core.Logic.{◌⊎◌, ⊎_elim}
use mathlib.Core.List.{List}
use Prim.Native.Nat.{ℕ, ◌≤◌, ◌<◌}
use native.Mathlib.Omega.{arith}
use lib.Dec.{ltb}
use lib.ListN.{length, take}
use lib.Seq.{take_all}
use borrow.Author.Tests.{ltb-true, ltb-false}
use Rattle.sets.proofs.Tests.{lt_or_ge}
use Rattle.sets.proofs.Least.{least_hit, least_miss}
use Rattle.program.specs.declared.Outcome.TheVariants.{Complete, Full, Spent}
use Rattle.tree.specs.Tree.{Node, hits}
use Rattle.tree.specs.Answer.{SearchAnswer, answer, overfull, full_at, run_answer}

-- ---- the node at which one p-stable leaf too many has been visited
module _ (hit : Node → Bool) (xs : List Node) (L : ℕ) where
  -- it is the first
  pub not_before : (m : ℕ) → m < full_at hit xs L → length (hits hit (take m xs)) ≤ L
  unfolding full_at overfull
  not_before m h = ltb-false L (length (hits hit (take m xs))) (least_miss (overfull hit xs L) (length xs) m h)

  -- it comes where there is one among the first A
  pub comes : (A : ℕ) → L < length (hits hit (take A xs)) → L < length (hits hit (take (full_at hit xs L) xs))
  unfolding full_at overfull
  comes A h = ⊎_elim
      (λ (i : full_at hit xs L < length xs). ltb-true L (length (hits hit (take (full_at hit xs L) xs))) (least_hit (overfull hit xs L) (length xs) i))
      (λ i. ⊎_elim
      (λ (k : A < full_at hit xs L). absurd (let q = not_before A k in omega arith))
      (λ k. let a : take A xs ≡ xs = take_all A xs (omega arith) in let f : take (full_at hit xs L) xs ≡ xs = take_all (full_at hit xs L) xs i in rw f (rw a at h))
      (lt_or_ge A (full_at hit xs L)))
      (lt_or_ge (full_at hit xs L) (length xs))

-- ---- the three ways to end, with A nodes allowed and L places, where H p-stable leaves are among the first A of N nodes
pub data Ended (L H A N F : ℕ) (a : SearchAnswer) : Type 0 where
  ends-full : L < H → a ≡ answer (Ok Full) L F → Ended L H A N F a
  ends-spent : H ≤ L → A < N → a ≡ answer (Ok Spent) H A → Ended L H A N F a
  ends-complete : H ≤ L → N ≤ A → a ≡ answer (Ok Complete) H N → Ended L H A N F a

pub ended : (hit : Node → Bool) (xs : List Node) (A L : ℕ) → Ended L (length (hits hit (take A xs))) A (length xs) (full_at hit xs L) (run_answer hit xs A L)
unfolding run_answer overfull
ended hit xs A L = go (ltb L (length (hits hit (take A xs)))) refl (ltb A (length xs)) refl
  where
    go : (b : Bool) → ltb L (length (hits hit (take A xs))) ≡ b → (c : Bool) → ltb A (length xs) ≡ c
        → Ended L (length (hits hit (take A xs))) A (length xs) (full_at hit xs L)
        (cond b (answer (Ok Full) L (full_at hit xs L)) (cond c (answer (Ok Spent) (length (hits hit (take A xs))) A) (answer (Ok Complete) (length (hits hit (take A xs))) (length xs))))
    go true e c f = ends-full (ltb-true _ _ e) refl
    go false e true f = ends-spent (ltb-false _ _ e) (ltb-true _ _ f) refl
    go false e false f = ends-complete (ltb-false _ _ e) (ltb-false _ _ f) refl
