-- Laws of tests. Assumes nothing.
use mathlib.Core.Path.{◌≡◌, refl, sym, ◌∙◌, subst}
use mathlib.Core.Bool.{Bool, true, false, not, ◌&&◌, ◌||◌, beq, true≢false, false≢true}
use mathlib.Core.Logic.{◌⊎◌, inl, inr, ⊎_elim}
use Prim.Native.Nat.{ℕ, ◌≤◌, ◌<◌}
use lib.Dec.{T, eqb, ltb}
use borrow.Author.Tests.{not-true, not-false, eqb-true, eqb-false, ltb-true, ltb-false}

-- a test is true or false
pub dec : (b : Bool) → (b ≡ true) ⊎ (b ≡ false)
dec true = inl refl
dec false = inr refl

pub clash : {A : Type 0} (b : Bool) → b ≡ true → b ≡ false → A
clash b p q = absurd (true≢false (sym p ∙ q))

pub both_true : (a b : Bool) → a && b ≡ true → (a ≡ true) × (b ≡ true)
both_true true b h = (refl, h)
both_true false b h = absurd (false≢true h)

pub and_is_true : (a b : Bool) → a ≡ true → b ≡ true → a && b ≡ true
and_is_true a b p q = rw (p, q)

pub both_false : (a b : Bool) → a || b ≡ false → (a ≡ false) × (b ≡ false)
both_false true b h = clash true refl h
both_false false b h = (refl, h)

pub beq_same : (a b : Bool) → beq a b ≡ true → a ≡ b
beq_same true true h = refl
beq_same true false h = absurd (false≢true h)
beq_same false true h = absurd (false≢true h)
beq_same false false h = refl

-- of two numbers the first is smaller, or not
pub lt_or_ge : (m n : ℕ) → (m < n) ⊎ (n ≤ m)
lt_or_ge m n = ⊎_elim (λ t. inl (ltb-true m n t)) (λ f. inr (ltb-false m n f)) (dec (ltb m n))

pub same? : (m n : ℕ) → (m ≡ n) ⊎ (m ≡ n → ⊥)
same? m n = ⊎_elim (λ t. inl (eqb-true m n t)) (λ f. inr (eqb-false m n f)) (dec (eqb m n))

-- what a callee ensures of its result, and what a test says of it
pub via : {x r b : Bool} → r ≡ x → r ≡ b → x ≡ b
via p q = sym p ∙ q

pub via_true : {x r : Bool} → r ≡ x → not r ≡ false → x ≡ true
via_true {x} {r} p q = sym p ∙ not-false r q

pub via_false : {x r : Bool} → r ≡ x → not r ≡ true → x ≡ false
via_false {x} {r} p q = sym p ∙ not-true r q

-- ---- a test as a type
pub T_true : (b : Bool) → T b → b ≡ true
T_true true t = refl
T_true false t = absurd t

pub true_T : (b : Bool) → b ≡ true → T b
true_T b e = subst T (sym e) tt

pub not_T_false : (b : Bool) → (T b → ⊥) → b ≡ false
not_T_false true f = absurd (f tt)
not_T_false false f = refl

pub T? : (b : Bool) → T b ⊎ (T b → ⊥)
T? true = inl tt
T? false = inr (λ t. t)

pub T_and : (a b : Bool) → T a → T b → T (a && b)
T_and true b p q = q
T_and false b p q = p

pub T_and_l : (a b : Bool) → T (a && b) → T a
T_and_l true b p = tt
T_and_l false b p = p

pub T_and_r : (a b : Bool) → T (a && b) → T b
T_and_r true b p = p
T_and_r false b p = absurd p

pub T_or : (a b : Bool) → T (a || b) → T a ⊎ T b
T_or true b p = inl tt
T_or false b p = inr p

pub T_or_l : (a b : Bool) → T a → T (a || b)
T_or_l true b p = tt
T_or_l false b p = absurd p

pub T_or_r : (a b : Bool) → T b → T (a || b)
T_or_r true b p = tt
T_or_r false b p = p

pub T_ext : (a b : Bool) → (T a → T b) → (T b → T a) → a ≡ b
T_ext true true f g = refl
T_ext true false f g = absurd (f tt)
T_ext false true f g = absurd (g tt)
T_ext false false f g = refl
