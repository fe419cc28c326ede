-- The place of a word in a rising list as the library finds it, and the members that the library moves up. Assumes nothing.
use Prim.Native.Nat.{ℕ, suc, ◌+◌, ◌-◌, ◌≤◌, ◌<◌}
use borrow.Author.Tests.{lt-ltb, ltb-true, ltb-false}
use lib.Dec.{ltb}
use lib.ListN.{length, get_or, take, drop}
use lib.Seq.{paste}
use mathlib.Core.Bool.{true, false}
use mathlib.Core.List.{List, ◌++◌, append_assoc}
use mathlib.Core.Path.{◌≡◌, sym, ap, ap₂, ◌∙◌}
use native.Mathlib.Decide.{dec_lt}
use native.Mathlib.Numerals.{add-one}
use native.Mathlib.Omega.{arith}
use Rattle.std.proofs.lemmas.Grind.{get_or_default_zero}
use Rattle.std.proofs.lemmas.List.{drop-take}
use Rattle.std.specs.List.Sorted.{IsPartitionedBy, IsPartitionPoint}
use Rattle.sets.specs.Lists.{Rising}
use Rattle.rising.specs.RisingSets.{rank}
use Rattle.rising.specs.Slices.{opened}
use Rattle.rising.proofs.RisingSets.{rank_within, rank_low, rank_high}

-- the members below x come before the others
pub rises : (x : ℕ) (l : List ℕ) → Rising l → IsPartitionedBy (λ y. ltb y x) l
rises x l r i j d h k e = lt-ltb _ _ (go (dec_lt (get_or l i d) x))
  where
    go : Dec (get_or l i d < x) → get_or l i d < x
    go (yes p) = p
    go (no n) = absurd (omega (
      arith,
      rank_low x l i (omega arith) (omega (arith, n, get_or_default_zero l i d (omega arith))),
      rank_high x l j r k (omega (arith, ltb-true _ _ e, get_or_default_zero l j d k)),
    ))

-- and there are as many of them as the place of x says
pub ranked : (x : ℕ) (l : List ℕ) (i : ℕ) → Rising l → i ≤ length l → IsPartitionPoint (λ y. ltb y x ≡ true) (λ y. ltb y x ≡ false) l i → i ≡ rank x l
ranked x l i r w p = omega (arith, low (dec_lt i (length l)), high (dec_lt 0 i))
  where
    low : Dec (i < length l) → rank x l ≤ i
    low (yes h) = rank_low x l i h (ltb-false _ _ (p.1 i 0 (omega arith) h))
    low (no n) = omega (arith, n, rank_within x l)

    high : Dec (0 < i) → i ≤ rank x l
    high (yes h) = omega (arith, rank_high x l (i - 1) r (omega arith) (ltb-true _ _ (p.0 (i - 1) 0 (omega arith) (omega arith))))
    high (no n) = omega (arith, n)

-- the members from `at` on, copied one place up
pub moved : (xs : List ℕ) (at count : ℕ) → at ≤ count → paste xs (at + 1) (drop at xs) (count - at) ≡ opened xs at count
unfolding opened
moved xs at count h =
    let e : at + (count - at) ≡ count = omega arith in
    let f : at + 1 + (count - at) ≡ suc count = omega arith in
    append_assoc (take (at + 1) xs) (take (count - at) (drop at xs)) (drop (at + 1 + (count - at)) xs)
    ∙ ap (λ (l : List ℕ). take (at + 1) xs ++ l) (ap₂ (λ (a b : List ℕ). a ++ b)
    (sym (drop-take at (count - at) xs) ∙ ap (λ (k : ℕ). drop at (take k xs)) e)
    (ap (λ (k : ℕ). drop k xs) f))
    ∙ ap (λ (k : ℕ). take k xs ++ (drop at (take count xs) ++ drop (suc count) xs)) (add-one at)
