-- Where the numbers rise, the first whose test holds is the lowest that applies. Assumes nothing.
use mathlib.Core.Path.{◌≡◌, refl, sym, ap, ◌∙◌, subst}
use mathlib.Core.Bool.{Bool, true, false, cond, ◌&&◌}
use mathlib.Core.List.{List, [], ◌∷◌}
use mathlib.Core.Logic.{inl, inr, ⊎_elim}
use Prim.Native.Nat.{ℕ, ◌^◌, ◌<◌}
use native.Mathlib.Omega.{arith}
use lib.Dec.{eqb, ltb}
use borrow.Author.Tests.{eqb-true, ltb-true}
use Rattle.sets.proofs.Tests.{both_true, clash}
use Rattle.std.specs.Prelude.{Result, Ok, Err}
use Rattle.program.specs.declared.Refusal.{Refusal}
use Rattle.program.specs.declared.Refusal.TheVariants.{WrongSize, Unended, ForeignByte, TooManyLines, NamesBroken, NamesEqual, ClauseBroken, OnlyZeros, InvalidProgram, OutsideWord, TooManyMembers, TooLittleRoom, SliceTooShort, AlreadyHeld, NoClause, NoPlaceLeft, DaysReversed}
use Rattle.program.specs.Refusals.{number, numbered, refusal_of, lowest, Applies, Lowest}

-- the numbers rise, and all lie above k
unfoldable pub rises : ℕ → List (ℕ × Bool) → Bool
rises k [] = true
rises k (t ∷ ts) = ltb k t.0 && rises t.0 ts

applies_above : (k : ℕ) (ts : List (ℕ × Bool)) → rises k ts ≡ true → (m : ℕ) → Applies ts m → k < m
unfolding rises
applies_above k [] r m a = absurd a.1
applies_above k (t ∷ ts) r m a =
    let b = both_true (ltb k t.0) (rises t.0 ts) r in
    let l : k < t.0 = ltb-true k t.0 b.0 in
    ⊎_elim
    (λ e. let n : t.0 ≡ m = ap (λ (x : ℕ × Bool). x.0) (sym e) ∙ a.2.0 in omega arith)
    (λ i. let h = applies_above t.0 ts b.1 m (a.0, i, a.2) in omega arith)
    a.1

-- what `lowest` gives: n, which is 0 where none applies
record Given (ts : List (ℕ × Bool)) (n : ℕ) : Type 0 where
  none-applies : n ≡ 0 → (m : ℕ) → Applies ts m → ⊥
  is-lowest : (n ≡ 0 → ⊥) → Lowest ts n

-- one number more, below the others
module _ (k : ℕ) (t : ℕ × Bool) (ts : List (ℕ × Bool)) (above : k < t.0) (r : rises t.0 ts ≡ true) where
  first : t.1 ≡ true → Given (t ∷ ts) t.0
  first e = record {
    none-applies = λ z. absurd (omega arith);
    is-lowest = λ d. record {
      applies = (t, inl refl, (refl, e));
      least = λ m a. ⊎_elim
          (λ (q : a.0 ≡ t). let n : t.0 ≡ m = ap (λ (x : ℕ × Bool). x.0) (sym q) ∙ a.2.0 in omega arith)
          (λ i. let h = applies_above t.0 ts r m (a.0, i, a.2) in omega arith)
          a.1;
    };
  }

  later : t.1 ≡ false → (n : ℕ) → Given ts n → Given (t ∷ ts) n
  later e n s = record {
    none-applies = λ z m a. s.none-applies z m (behind m a);
    is-lowest = λ d. let x = s.is-lowest d in record { applies = (x.applies.0, inr x.applies.1, x.applies.2); least = λ m a. x.least m (behind m a) };
  }
    where
      behind : (m : ℕ) → Applies (t ∷ ts) m → Applies ts m
      behind m a = ⊎_elim (λ (q : a.0 ≡ t). clash t.1 (ap (λ (x : ℕ × Bool). x.1) (sym q) ∙ a.2.1) e) (λ i. (a.0, i, a.2)) a.1

given : (k : ℕ) (ts : List (ℕ × Bool)) → rises k ts ≡ true → Given ts (lowest ts)
unfolding rises lowest
given k [] r = record { none-applies = λ z m a. absurd a.1; is-lowest = λ n. absurd (n refl) }
given k (t ∷ ts) r = go (given t.0 ts b.1) t.1 refl
  where
    b : (ltb k t.0 ≡ true) × (rises t.0 ts ≡ true)
    b = both_true (ltb k t.0) (rises t.0 ts) r

    go : Given ts (lowest ts) → (c : Bool) → t.1 ≡ c → Given (t ∷ ts) (cond c t.0 (lowest ts))
    go s true e = first k t ts (ltb-true k t.0 b.0) b.1 e
    go s false e = later k t ts (ltb-true k t.0 b.0) b.1 e (lowest ts) s

-- ---- of numbers that rise from 1 on
module _ (ts : List (ℕ × Bool)) (r : rises 0 ts ≡ true) where
  pub none-lowest : lowest ts ≡ 0 → (m : ℕ) → Applies ts m → ⊥
  none-lowest = (given 0 ts r).none-applies

  pub lowest_is : (lowest ts ≡ 0 → ⊥) → Lowest ts (lowest ts)
  lowest_is = (given 0 ts r).is-lowest

-- there is one lowest
pub one_lowest : (ts : List (ℕ × Bool)) (n m : ℕ) → Lowest ts n → Lowest ts m → n ≡ m
one_lowest ts n m a b = omega (arith, a.least m b.applies, b.least n a.applies)

-- ---- the refusal of a number
pub of_number : (r : Refusal) → refusal_of (number r) ≡ r
unfolding numbered
of_number WrongSize = refl
of_number Unended = refl
of_number ForeignByte = refl
of_number TooManyLines = refl
of_number NamesBroken = refl
of_number NamesEqual = refl
of_number ClauseBroken = refl
of_number OnlyZeros = refl
of_number InvalidProgram = refl
of_number OutsideWord = refl
of_number TooManyMembers = refl
of_number TooLittleRoom = refl
of_number SliceTooShort = refl
of_number AlreadyHeld = refl
of_number NoClause = refl
of_number NoPlaceLeft = refl
of_number DaysReversed = refl

-- no two have one number
pub same_refusal : (r s : Refusal) → number r ≡ number s → r ≡ s
same_refusal r s e = sym (of_number r) ∙ ap refusal_of e ∙ of_number s

-- each number in a list is that of a refusal
unfoldable pub numbers_known : List (ℕ × Bool) → Bool
numbers_known [] = true
numbers_known (t ∷ ts) = eqb (number (refusal_of t.0)) t.0 && numbers_known ts

pub number_of : (ts : List (ℕ × Bool)) → numbers_known ts ≡ true → (n : ℕ) → Applies ts n → number (refusal_of n) ≡ n
unfolding numbers_known
number_of [] k n a = absurd a.1
number_of (t ∷ ts) k n a =
    let b = both_true (eqb (number (refusal_of t.0)) t.0) (numbers_known ts) k in
    ⊎_elim
    (λ (q : a.0 ≡ t). subst (λ (m : ℕ). number (refusal_of m) ≡ m) (ap (λ (x : ℕ × Bool). x.0) (sym q) ∙ a.2.0) (eqb-true (number (refusal_of t.0)) t.0 b.0))
    (λ i. number_of ts b.1 n (a.0, i, a.2))
    a.1

-- ---- no answer is both
pub not_both : {A B : Type 0} {v : Result B Refusal} {b : B} {r : Refusal} → v ≡ Ok b → v ≡ Err r → A
not_both a b = absurd (cc (a, b))

-- the lowest that applies is the number of a refusal
pub number_lowest : (ts : List (ℕ × Bool)) → rises 0 ts ≡ true → numbers_known ts ≡ true → (lowest ts ≡ 0 → ⊥) → number (refusal_of (lowest ts)) ≡ lowest ts
number_lowest ts r k d = number_of ts k (lowest ts) (lowest_is ts r d).applies

-- none has the number 0
pub number_some : (r : Refusal) → number r ≡ 0 → ⊥
number_some WrongSize e = omega arith
number_some Unended e = omega arith
number_some ForeignByte e = omega arith
number_some TooManyLines e = omega arith
number_some NamesBroken e = omega arith
number_some NamesEqual e = omega arith
number_some ClauseBroken e = omega arith
number_some OnlyZeros e = omega arith
number_some InvalidProgram e = omega arith
number_some OutsideWord e = omega arith
number_some TooManyMembers e = omega arith
number_some TooLittleRoom e = omega arith
number_some SliceTooShort e = omega arith
number_some AlreadyHeld e = omega arith
number_some NoClause e = omega arith
number_some NoPlaceLeft e = omega arith
number_some DaysReversed e = omega arith

-- the refusal of a number that a call gave
pub refusal_is : (r : Refusal) (n : ℕ) → number r ≡ n → refusal_of n ≡ r
refusal_is r n e = ap refusal_of (sym e) ∙ of_number r

pub number_few : (r : Refusal) → number r < 2 ^ 8
number_few WrongSize = omega arith
number_few Unended = omega arith
number_few ForeignByte = omega arith
number_few TooManyLines = omega arith
number_few NamesBroken = omega arith
number_few NamesEqual = omega arith
number_few ClauseBroken = omega arith
number_few OnlyZeros = omega arith
number_few InvalidProgram = omega arith
number_few OutsideWord = omega arith
number_few TooManyMembers = omega arith
number_few TooLittleRoom = omega arith
number_few SliceTooShort = omega arith
number_few AlreadyHeld = omega arith
number_few NoClause = omega arith
number_few NoPlaceLeft = omega arith
number_few DaysReversed = omega arith
