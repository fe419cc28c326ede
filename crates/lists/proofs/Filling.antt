-- An array of n places that a loop fills from the front. Assumes nothing.
use mathlib.Core.Path.{◌≡◌, refl, sym, ap, ap₂, ◌∙◌}
use mathlib.Core.List.{List, [], ◌∷◌, ◌++◌, append-nil, append_assoc}
use Prim.Native.Nat.{ℕ, zero, suc, ◌+◌, ◌-◌, ◌≤◌, ◌<◌}
use native.Mathlib.Nat.{add-zero, sub-zero, zero-add}
use native.Mathlib.Numerals.{add-one}
use native.Mathlib.Omega.{arith}
use lib.ListN.{length, set, replicate}
use Rattle.sets.specs.Lists.{up_from, tabulate}
use Rattle.sets.proofs.Lists.{length-up_from}

module _ {A : Type 0} where
  -- one more of f i, f (i + 1), ..
  up_last : (f : ℕ → A) (k i : ℕ) → up_from f (suc k) i ≡ up_from f k i ++ f (i + k) ∷ []
  unfolding up_from
  up_last f zero i = ap (λ (j : ℕ). f j ∷ []) (sym (add-zero i))
  up_last f (suc k) i =
      let e : suc i + k ≡ i + suc k = omega arith in
      ap (λ (l : List A). f i ∷ l) (up_last f k (suc i) ∙ ap (λ (j : ℕ). up_from f k (suc i) ++ f j ∷ []) e)

  set_behind : (xs r : List A) (y v : A) → set (xs ++ y ∷ r) (length xs) v ≡ xs ++ v ∷ r
  set_behind [] r y v = refl
  set_behind (x ∷ xs) r y v = ap (λ (l : List A). x ∷ l) (set_behind xs r y v)

  module _ (f : ℕ → A) (d : A) (n : ℕ) where
    -- f 0, .., f (i - 1) stand in front, d in each place behind them
    pub record Filled (i : ℕ) (out : List A) : Type 0 where
      pub within : i ≤ n
      pub whole : out ≡ up_from f i 0 ++ replicate (n - i) d

    pub fill_start : Filled 0 (replicate n d)
    unfolding up_from
    fill_start = record { within = omega arith; whole = ap (λ (k : ℕ). replicate k d) (sym (sub-zero n)) }

    pub fill_more : (i : ℕ) (v : A) (out : List A) → Filled i out → i < n → v ≡ f i → Filled (i + 1) (set out i v)
    fill_more i v out s h e =
        let q : n - i ≡ suc (n - (i + 1)) = omega arith in
        let r = replicate (n - (i + 1)) d in
        let a : out ≡ up_from f i 0 ++ d ∷ r = s.whole ∙ ap (λ (k : ℕ). up_from f i 0 ++ replicate k d) q in
        record {
          within = omega arith;
          whole = ap₂ (λ (l : List A) (k : ℕ). set l k v) a (sym (length-up_from f i 0))
              ∙ set_behind (up_from f i 0) r d v
              ∙ ap (λ (x : A). up_from f i 0 ++ x ∷ r) (e ∙ ap f (sym (zero-add i)))
              ∙ sym (append_assoc (up_from f i 0) (f (0 + i) ∷ []) r)
              ∙ ap (λ (l : List A). l ++ r) (sym (up_last f i 0) ∙ ap (λ (k : ℕ). up_from f k 0) (sym (add-one i)));
        }

    pub fill_done : (i : ℕ) (out : List A) → Filled i out → n ≤ i → out ≡ tabulate f n
    unfolding tabulate
    fill_done i out s h =
        let q : n - i ≡ 0 = omega arith in
        let w = s.within in
        let e : i ≡ n = omega arith in
        s.whole ∙ ap (λ (k : ℕ). up_from f i 0 ++ replicate k d) q ∙ append-nil (up_from f i 0) ∙ ap (λ (k : ℕ). up_from f k 0) e
