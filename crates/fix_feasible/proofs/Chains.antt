-- What the library answers of `any` and `count` over the first n heads. Assumes nothing.
use Prim.Native.Nat.{ℕ, zero, suc, ◌+◌, ◌≤◌, ◌<◌}
use lib.ListN.{length, take, drop}
use lib.Seq.{drop-cons}
use mathlib.Core.Bool.{Bool, true, false, cond}
use mathlib.Core.List.{List, ◌∷◌}
use mathlib.Core.Path.{◌≡◌, refl, sym, ap, ◌∙◌}
use native.Mathlib.Omega.{arith}
use Rattle.std.specs.Bool.{MatchBool}
use Rattle.std.specs.List.{AllWithin, HoldsAt, count_by}
use Rattle.std.proofs.lemmas.List.Recursion.{is_count_by}
use Rattle.sets.specs.Lists.{any_of, sift, up_from, tabulate}
use Rattle.sets.proofs.Lists.{at_in, in_at, in_some, some_none}
use Rattle.heads.specs.Heads.{head_at}

-- ---- the first n heads
heads_from : (ws : List ℕ) (n i : ℕ) → i + n ≤ length ws → take n (drop i ws) ≡ up_from (head_at ws) n i
unfolding up_from
heads_from ws zero i h = refl
heads_from ws (suc n) i h = ap (take (suc n)) (drop-cons ws i 0 (omega arith)) ∙ ap (λ (l : List ℕ). head_at ws i ∷ l) (heads_from ws n (suc i) (omega arith))

heads_are : (ws : List ℕ) (n : ℕ) → n ≤ length ws → take n ws ≡ tabulate (head_at ws) n
unfolding tabulate
heads_are ws n h = heads_from ws n 0 (omega arith)

-- ---- whether one of them passes
some_is : (p : ℕ → Bool) (l : List ℕ) (r : Bool) → MatchBool r ((k : ℕ) × (k < length l) × HoldsAt (λ x. p x ≡ true) l k) (AllWithin (λ x. p x ≡ false) l 0 (length l)) → r ≡ any_of p l
some_is p l true (k, h, y) = sym (in_some p l _ (at_in l 0 k h) (y 0))
some_is p l false m = sym (some_none p l (λ x i. let s = in_at l 0 x i in ap p (sym s.2) ∙ m s.0 0 (omega arith) s.1))

pub any_is : (p : ℕ → Bool) (ws : List ℕ) (n : ℕ) (r : Bool) → n ≤ length ws
    → MatchBool r ((k : ℕ) × (k < length (take n ws)) × HoldsAt (λ x. p x ≡ true) (take n ws) k) (AllWithin (λ x. p x ≡ false) (take n ws) 0 (length (take n ws)))
    → r ≡ any_of p (tabulate (head_at ws) n)
any_is p ws n r h m = some_is p (take n ws) r m ∙ ap (any_of p) (heads_are ws n h)

-- ---- how many pass
one_more : (b : Bool) (x : ℕ) (l : List ℕ) → length (cond b (x ∷ l) l) ≡ cond b (1 + length l) (length l)
one_more true x l = omega arith
one_more false x l = refl

sift_is : (p : ℕ → Bool) (l : List ℕ) → length (sift p l) ≡ count_by p l
unfolding sift
sift_is p = is_count_by (λ l. length (sift p l)) p refl (λ x l. one_more (p x) x (sift p l))

pub count_is : (p : ℕ → Bool) (ws : List ℕ) (n : ℕ) (r : ℕ) → n ≤ length ws → r ≡ count_by p (take n ws) → r ≡ length (sift p (tabulate (head_at ws) n))
count_is p ws n r h e = e ∙ sym (sift_is p (take n ws)) ∙ ap (λ (l : List ℕ). length (sift p l)) (heads_are ws n h)
