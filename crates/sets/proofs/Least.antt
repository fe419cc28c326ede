-- Laws of the least number that passes a test, and of a loop that looks for it. Assumes nothing.
use mathlib.Core.Path.{◌≡◌, refl, sym, ap, ◌∙◌}
use mathlib.Core.Bool.{Bool, true, false, cond}
use mathlib.Core.Logic.{◌⊎◌, ⊎_elim}
use Prim.Native.Nat.{ℕ, zero, suc, ◌+◌, ◌-◌, ◌≤◌, ◌<◌}
use native.Mathlib.Nat.{eq-or-lt_of_le, zero-add, add-zero, sub-zero}
use native.Mathlib.Numerals.{add-one}
use native.Mathlib.Omega.{arith}
use Rattle.sets.specs.Least.{least_from, least}
use Rattle.sets.proofs.Tests.{clash, lt_or_ge}

-- what is left of the search for the least number below n that passes p, at i
unfoldable pub rest : (ℕ → Bool) → ℕ → ℕ → ℕ
rest p n i = least_from p (n - i) i

-- a loop that has looked below i and goes on to n
pub record Searched (p : ℕ → Bool) (n i : ℕ) : Type 0 where
  pub within : i ≤ n
  pub same : rest p n i ≡ least p n

module _ (p : ℕ → Bool) where
  pub start : (n : ℕ) → Searched p n 0
  unfolding rest least
  start n = record { within = omega arith; same = rw sub-zero }

  step : (n i : ℕ) → i < n → rest p n i ≡ cond (p i) i (rest p n (i + 1))
  unfolding rest least_from
  step n i h = let e : n - i ≡ suc (n - (i + 1)) = omega arith in rw (e, add-one i)

  pub hit : (n i : ℕ) → Searched p n i → i < n → p i ≡ true → i ≡ least p n
  hit n i s h t = rw t at (sym (step n i h)) ∙ s.same

  pub miss : (n i : ℕ) → Searched p n i → i < n → p i ≡ false → Searched p n (i + 1)
  miss n i s h t = record { within = omega arith; same = rw t at (sym (step n i h)) ∙ s.same }

  pub done : (n i : ℕ) → Searched p n i → n ≤ i → n ≡ least p n
  unfolding rest least_from
  done n i s h = let e : n - i ≡ 0 = omega arith in let q : n ≡ i = omega arith in q ∙ rw e at s.same

  from_le : (k i : ℕ) → least_from p k i ≤ i + k
  unfolding least_from
  from_le zero i = omega arith
  from_le (suc k) i = go (p i) (from_le k (suc i))
    where
      go : (b : Bool) → least_from p k (suc i) ≤ suc i + k → cond b i (least_from p k (suc i)) ≤ i + suc k
      go true h = omega arith
      go false h = omega arith

  from_hit : (k i : ℕ) → least_from p k i < i + k → p (least_from p k i) ≡ true
  unfolding least_from
  from_hit zero i h = absurd (omega arith)
  from_hit (suc k) i h = go (p i) refl h (from_hit k (suc i))
    where
      go : (b : Bool) → p i ≡ b → cond b i (least_from p k (suc i)) < i + suc k
          → (least_from p k (suc i) < suc i + k → p (least_from p k (suc i)) ≡ true) → p (cond b i (least_from p k (suc i))) ≡ true
      go true e h r = e
      go false e h r = r (omega arith)

  from_miss : (k i j : ℕ) → i ≤ j → j < least_from p k i → p j ≡ false
  unfolding least_from
  from_miss zero i j l h = absurd (omega arith)
  from_miss (suc k) i j l h = go (p i) refl h (from_miss k (suc i) j)
    where
      go : (b : Bool) → p i ≡ b → j < cond b i (least_from p k (suc i))
          → (suc i ≤ j → j < least_from p k (suc i) → p j ≡ false) → p j ≡ false
      go true e h r = absurd (omega arith)
      go false e h r = ⊎_elim (λ q. ap p (sym q) ∙ e) (λ q. r q h) (eq-or-lt_of_le l)

  pub least_le : (n : ℕ) → least p n ≤ n
  unfolding least
  least_le n = rw zero-add at (from_le n 0)

  pub least_hit : (n : ℕ) → least p n < n → p (least p n) ≡ true
  unfolding least
  least_hit n h = from_hit n 0 (rw zero-add h)

  pub least_miss : (n j : ℕ) → j < least p n → p j ≡ false
  unfolding least
  least_miss n j h = from_miss n 0 j (omega arith) h

  from_shift : (k i : ℕ) → least_from p k (suc i) ≡ suc (least_from (λ j. p (suc j)) k i)
  unfolding least_from
  from_shift zero i = refl
  from_shift (suc k) i = go (p (suc i)) (from_shift k (suc i))
    where
      go : (b : Bool) → least_from p k (suc (suc i)) ≡ suc (least_from (λ j. p (suc j)) k (suc i))
          → cond b (suc i) (least_from p k (suc (suc i))) ≡ suc (cond b i (least_from (λ j. p (suc j)) k (suc i)))
      go true e = refl
      go false e = e

  -- the least is what passes with nothing below it that does
  pub least_is : (n i : ℕ) → i < n → p i ≡ true → ((j : ℕ) → j < i → p j ≡ false) → least p n ≡ i
  least_is n i h t f = ⊎_elim
      (λ (l : least p n < i). clash (p (least p n)) (least_hit n (omega arith)) (f (least p n) l))
      (λ g. ⊎_elim (λ (l : i < least p n). clash (p i) t (least_miss n i l)) (λ k. omega arith) (lt_or_ge i (least p n)))
      (lt_or_ge (least p n) i)

  pub least_late : (n i : ℕ) → i ≤ n → ((j : ℕ) → j < i → p j ≡ false) → i ≤ least p n
  least_late n i h f = ⊎_elim (λ (l : least p n < i). clash (p (least p n)) (least_hit n (omega arith)) (f (least p n) l)) (λ g. g) (lt_or_ge (least p n) i)

  pub least_none : (n : ℕ) → ((j : ℕ) → j < n → p j ≡ false) → least p n ≡ n
  least_none n f = ⊎_elim (λ (l : least p n < n). clash (p (least p n)) (least_hit n l) (f (least p n) l)) (λ g. omega (arith, least_le n)) (lt_or_ge (least p n) n)

  pub least_suc : (n : ℕ) → least p (suc n) ≡ cond (p 0) 0 (suc (least (λ j. p (suc j)) n))
  unfolding least least_from
  least_suc n = rw (from_shift n 0)

  -- what is passed over without a look fails the test
  leap_by : (n d i : ℕ) → Searched p n i → i + d ≤ n → ((k : ℕ) → i ≤ k → k < i + d → p k ≡ false) → Searched p n (i + d)
  leap_by n zero i s h none = rw add-zero s
  leap_by n (suc d) i s h none =
      let e : i + suc d ≡ i + 1 + d = omega arith in
      rw e (leap_by n d (i + 1) (miss n i s (omega arith) (none i (omega arith) (omega arith))) (omega arith) (λ k a b. none k (omega arith) (omega arith)))

  pub leap : (n i m : ℕ) → Searched p n i → i ≤ m → m ≤ n → ((k : ℕ) → i ≤ k → k < m → p k ≡ false) → Searched p n m
  leap n i m s l h none =
      let e : i + (m - i) ≡ m = omega arith in
      rw e at (leap_by n (m - i) i s (omega arith) (λ k a b. none k a (omega arith)))
