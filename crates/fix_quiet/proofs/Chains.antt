-- What the library answers of `any` over the numbers below n. Assumes nothing.
use Prim.Native.Nat.{ℕ, ◌<◌}
use lib.ListN.{length, get_or}
use mathlib.Core.Bool.{Bool, true, false}
use mathlib.Core.Path.{◌≡◌, sym, ap, ◌∙◌, subst}
use native.Mathlib.Omega.{arith}
use Rattle.std.specs.Bool.{MatchBool}
use Rattle.std.specs.List.{range_with_len, AllWithin, HoldsAt}
use Rattle.std.proofs.lemmas.List.FromFn.{length-range_with_len, get_or-range_with_len}
use Rattle.sets.specs.Lists.{◌∈◌, any_of, tabulate}
use Rattle.sets.proofs.Lists.{at_in, in_at, in_some, some_none, length-tabulate, get_d_tabulate}

module _ {A : Type 0} (f : ℕ → A) (p : A → Bool) (n : ℕ) where
  number : (k : ℕ) → k < length (range_with_len 0 n) → (k < n) × (get_or (range_with_len 0 n) k 0 ≡ k)
  number k h = let l : k < n = omega (arith, length-range_with_len 0 n) in (l, omega (arith, get_or-range_with_len 0 n k 0 l))

  pub any_is : (r : Bool) → MatchBool r ((k : ℕ) × (k < length (range_with_len 0 n)) × HoldsAt (λ i. p (f i) ≡ true) (range_with_len 0 n) k) (AllWithin (λ i. p (f i) ≡ false) (range_with_len 0 n) 0 (length (range_with_len 0 n)))
      → r ≡ any_of p (tabulate f n)
  any_is true (k, h, y) =
      let e = number k h in
      sym (in_some p (tabulate f n) (f k) (subst (λ (x : A). x ∈ tabulate f n) (get_d_tabulate f n k (f k) e.0) (at_in (tabulate f n) (f k) k (omega (arith, e.0, length-tabulate f n))))
      (rw e.1 at (y 0)))
  any_is false m = sym (some_none p (tabulate f n) (λ x i.
      let s = in_at (tabulate f n) x x i in
      let l : s.0 < n = omega (arith, s.1, length-tabulate f n) in
      let h : s.0 < length (range_with_len 0 n) = omega (arith, length-range_with_len 0 n) in
      ap p (sym s.2 ∙ get_d_tabulate f n s.0 x l) ∙ rw (number s.0 h).1 at (m s.0 0 (omega arith) h)))
