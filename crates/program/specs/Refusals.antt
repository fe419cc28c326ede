-- Refusals by number. Assumes nothing.
use Rattle.std.specs.Prelude.{◌≡◌, Bool, true, cond, List, [], ◌∷◌, ℕ, ◌≤◌, eqb, Result, Ok, Err}
use Rattle.sets.specs.Lists.{Some}
use Rattle.program.specs.declared.Refusal.{Refusal}
use Rattle.program.specs.declared.Refusal.TheVariants.{WrongSize, Unended, ForeignByte, TooManyLines, NamesBroken, NamesEqual, ClauseBroken, OnlyZeros, InvalidProgram, OutsideWord, TooManyMembers, TooLittleRoom, SliceTooShort, AlreadyHeld, NoClause, NoPlaceLeft, DaysReversed}

-- ---- the numbers of documents 01 and 02
abbrev pub number : Refusal → ℕ
number WrongSize = 1
number Unended = 2
number ForeignByte = 3
number TooManyLines = 4
number NamesBroken = 5
number NamesEqual = 6
number ClauseBroken = 7
number OnlyZeros = 8
number InvalidProgram = 9
number OutsideWord = 10
number TooManyMembers = 11
number TooLittleRoom = 12
number SliceTooShort = 13
number AlreadyHeld = 16
number NoClause = 17
number NoPlaceLeft = 18
number DaysReversed = 22

-- the refusal that has the number n: the first of a list that has it, and where none has, the last
unfoldable pub numbered : ℕ → Refusal → List Refusal → Refusal
numbered n last [] = last
numbered n last (r ∷ rs) = cond (eqb (number r) n) r (numbered n last rs)

abbrev pub refusal_of : ℕ → Refusal
refusal_of n =
    numbered n DaysReversed
    (WrongSize ∷ Unended ∷ ForeignByte ∷ TooManyLines ∷ NamesBroken ∷ NamesEqual ∷ ClauseBroken ∷ OnlyZeros ∷ InvalidProgram ∷ OutsideWord ∷ TooManyMembers ∷ TooLittleRoom ∷ SliceTooShort ∷ AlreadyHeld ∷ NoClause ∷ NoPlaceLeft ∷ [])

-- "Of several that apply, the lowest is given": the first number whose test holds, 0 for none.
unfoldable pub lowest : List (ℕ × Bool) → ℕ
lowest [] = 0
lowest (t ∷ ts) = let r = lowest ts in cond t.1 t.0 r

-- the number n applies: it is one of those that a call meets, and its test holds
abbrev pub Applies : List (ℕ × Bool) → ℕ → Type 0
Applies ts n = Some (λ t. (t.0 ≡ n) × (t.1 ≡ true)) ts

-- n is the lowest number that applies
pub record Lowest (ts : List (ℕ × Bool)) (n : ℕ) : Type 0 where
  pub applies : Applies ts n
  pub least : (m : ℕ) → Applies ts m → n ≤ m

-- whether a call takes its input, or why not
abbrev pub Verdict : Type 0
Verdict = Result (Unit {0}) Refusal

-- "A refusal carries its number": the number of an answer, 0 where the input is accepted
abbrev pub refused_by : {A : Type 0} → Result A Refusal → ℕ
refused_by (Ok a) = 0
refused_by (Err r) = number r

-- the verdict of an answer
abbrev pub verdict_of : {A : Type 0} → Result A Refusal → Verdict
verdict_of (Ok a) = Ok tt
verdict_of (Err r) = Err r
