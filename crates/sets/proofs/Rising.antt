-- Laws of rising lists and of first parts. Assumes nothing.
use mathlib.Core.Path.{◌≡◌, refl, sym, ap, ap₂, ◌∙◌, subst}
use mathlib.Core.Logic.{◌⊎◌, inl, inr, ⊎_elim}
use mathlib.Core.Bool.{Bool, true, false, cond}
use mathlib.Core.List.{List, [], ◌∷◌, ◌++◌}
use Prim.Native.Nat.{ℕ, zero, suc, ◌+◌, ◌≤◌}
use native.Mathlib.Omega.{arith}
use lib.ListN.{length, take}
use lib.Seq.{take-append_seam, take-take, take_all, length-take-le}
use Rattle.sets.specs.Lists.{◌∈◌, sift, up_from, tabulate, below, Rising, Begins}
use Rattle.sets.proofs.Tests.{lt_or_ge}
use Rattle.sets.proofs.Lists.{sift_out, up_from_in}

-- two rising lists with the same members are equal
pub rising_ext : (a b : List ℕ) → Rising a → Rising b → ((z : ℕ) → z ∈ a → z ∈ b) → ((z : ℕ) → z ∈ b → z ∈ a) → a ≡ b
unfolding Rising
rising_ext [] [] r s f g = refl
rising_ext [] (y ∷ b) r s f g = absurd (g y (inl refl))
rising_ext (x ∷ a) [] r s f g = absurd (f x (inl refl))
rising_ext (x ∷ a) (y ∷ b) r s f g = ap₂ (λ (h : ℕ) (t : List ℕ). h ∷ t) same (rising_ext a b r.1 s.1 to of)
  where
    same : x ≡ y
    same = ⊎_elim (λ e. e) (λ i. ⊎_elim (λ e. sym e) (λ j. absurd (let p = r.0 y j in let q = s.0 x i in omega arith)) (g y (inl refl))) (f x (inl refl))

    to : (z : ℕ) → z ∈ a → z ∈ b
    to z m = ⊎_elim (λ e. absurd (let p = r.0 z m in omega (arith, same))) (λ i. i) (f z (inr m))

    of : (z : ℕ) → z ∈ b → z ∈ a
    of z m = ⊎_elim (λ e. absurd (let p = s.0 z m in omega (arith, same))) (λ i. i) (g z (inr m))

pub sift-rising : (p : ℕ → Bool) (l : List ℕ) → Rising l → Rising (sift p l)
unfolding sift Rising
sift-rising p [] r = tt
sift-rising p (x ∷ l) r = go (p x) (sift-rising p l r.1)
  where
    go : (b : Bool) → Rising (sift p l) → Rising (cond b (x ∷ sift p l) (sift p l))
    go true s = (λ y m. r.0 y (sift_out p l y m).0, s)
    go false s = s

up_from-rising : (k i : ℕ) → Rising (up_from (λ j. j) k i)
unfolding up_from Rising
up_from-rising zero i = tt
up_from-rising (suc k) i = (λ y m. let r = up_from_in (λ j. j) k (suc i) y m in omega (arith, r.1, r.3), up_from-rising k (suc i))

pub below-rising : (n : ℕ) → Rising (below n)
unfolding below tabulate
below-rising n = up_from-rising n 0

-- of two rising lists the one whose members are all in the other is no longer
pub rising-shorter : (b a : List ℕ) → Rising a → Rising b → ((z : ℕ) → z ∈ a → z ∈ b) → length a ≤ length b
unfolding Rising
rising-shorter b [] r s f = omega arith
rising-shorter [] (x ∷ a) r s f = absurd (f x (inl refl))
rising-shorter (y ∷ b) (x ∷ a) r s f = ⊎_elim
    (λ (e : x ≡ y). let h = rising-shorter b a r.1 s.1 (λ z m. ⊎_elim (λ q. absurd (let p = r.0 z m in omega arith)) (λ k. k) (f z (inr m))) in omega arith)
    (λ (k : x ∈ b).
    let l = s.0 x k in
    let h = rising-shorter b (x ∷ a) r s.1 (λ z m. ⊎_elim (λ q. absurd (⊎_elim (λ v. omega arith) (λ v. let p = r.0 z v in omega arith) m)) (λ v. v) (f z m)) in omega arith)
    (f x (inl refl))

-- ---- first parts
pub begins_append : (a b : List ℕ) → Begins a (a ++ b)
unfolding Begins
begins_append a b = take-append_seam a b

pub begins_take : (n : ℕ) (a b : List ℕ) → Begins a b → Begins (take n a) b
unfolding Begins
begins_take n a b h = ⊎_elim
    (λ l. let e : length (take n a) ≡ n = length-take-le n a (omega arith) in ap (λ k. take k b) e ∙ sym (take-take n (length a) b (omega arith)) ∙ ap (take n) h)
    (λ g. let e = take_all n a g in ap (λ (x : List ℕ). take (length x) b) e ∙ h ∙ sym e)
    (lt_or_ge n (length a))

-- of two first parts of one list the shorter begins the longer
pub begins_both : (a b c : List ℕ) → Begins a c → Begins b c → length a ≤ length b → Begins a b
unfolding Begins
begins_both a b c p q h = ap (take (length a)) (sym q) ∙ take-take (length a) (length b) c h ∙ p

pub begins_same : (a b c : List ℕ) → Begins a c → Begins b c → length a ≡ length b → a ≡ b
unfolding Begins
begins_same a b c p q e = sym p ∙ ap (λ n. take n c) e ∙ q

-- what stands in a first part stands in the list
take_in : (n : ℕ) (l : List ℕ) (x : ℕ) → x ∈ take n l → x ∈ l
take_in zero l x m = absurd m
take_in (suc n) [] x m = absurd m
take_in (suc n) (y ∷ l) x (inl e) = inl e
take_in (suc n) (y ∷ l) x (inr k) = inr (take_in n l x k)

pub begins_in : (a b : List ℕ) → Begins a b → (x : ℕ) → x ∈ a → x ∈ b
unfolding Begins
begins_in a b h x m = take_in (length a) b x (subst (λ (l : List ℕ). x ∈ l) (sym h) m)

-- a first part of a rising list rises
take-rising : (n : ℕ) (l : List ℕ) → Rising l → Rising (take n l)
unfolding Rising
take-rising zero l r = tt
take-rising (suc n) [] r = tt
take-rising (suc n) (y ∷ l) r = (λ z m. r.0 z (take_in n l z m), take-rising n l r.1)

pub begins_rising : (a b : List ℕ) → Begins a b → Rising b → Rising a
unfolding Begins
begins_rising a b h r = subst Rising h (take-rising (length a) b r)
