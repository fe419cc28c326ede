-- Laws of the decimal text: digit by digit, one text for each number, and the number that a text is. Assumes nothing.
use mathlib.Core.Path.{◌≡◌, refl, sym, ap, ◌∙◌}
use mathlib.Core.Bool.{Bool, true}
use mathlib.Core.Logic.{⊎_elim}
use mathlib.Core.List.{List, [], ◌∷◌, ◌++◌}
use Prim.Native.Nat.{ℕ, zero, suc, ◌+◌, ◌-◌, ◌*◌, ◌/◌, ◌%◌, ◌^◌, ◌≤◌, ◌<◌}
use native.Mathlib.Nat.{pow-suc}
use native.Mathlib.Omega.{arith}
use lib.ListN.{length, length-append}
use borrow.Author.Tests.{lt-ltb, le-ltb, le-leb, lt-leb}
use Rattle.sets.specs.Lists.{every}
use Rattle.sets.proofs.Tests.{dec, lt_or_ge, both_true}
use Rattle.sets.proofs.Least.{least_is, least_hit, least_none, least_le}
use Rattle.lists.specs.Bytes.{same}
use Rattle.lists.proofs.Loops.{same_true, same_self}
use Rattle.std.proofs.Common.{Some, None}
use Rattle.decimal.specs.Decimal.{numeral, decimal, number_of, parsed_of}

-- ---- digit by digit
digits_one : (k v : ℕ) → v < 10 → numeral (suc k) v ≡ (48 + v) ∷ []
unfolding numeral
digits_one k v h = rw (lt-ltb v 10 h)

digits_more : (k v : ℕ) → 10 ≤ v → numeral (suc k) v ≡ numeral k (v / 10) ++ (48 + v % 10) ∷ []
unfolding numeral
digits_more k v h = rw (le-ltb v 10 h)

-- one more than the number is bound enough
enough : (j k v : ℕ) → v < j → v < k → numeral j v ≡ numeral k v
enough zero k v h l = absurd (omega arith)
enough (suc j) zero v h l = absurd (omega arith)
enough (suc j) (suc k) v h l = ⊎_elim
    (λ (s : v < 10). digits_one j v s ∙ sym (digits_one k v s))
    (λ s. digits_more j v s ∙ ap (λ (t : List ℕ). t ++ (48 + v % 10) ∷ []) (enough j k (v / 10) (omega arith) (omega arith)) ∙ sym (digits_more k v s))
    (lt_or_ge v 10)

pub decimal_one : (v : ℕ) → v < 10 → decimal v ≡ (48 + v) ∷ []
unfolding decimal
decimal_one v h = digits_one v v h

pub decimal_more : (v : ℕ) → 10 ≤ v → decimal v ≡ decimal (v / 10) ++ (48 + v % 10) ∷ []
unfolding decimal
decimal_more v h = digits_more v v h ∙ ap (λ (t : List ℕ). t ++ (48 + v % 10) ∷ []) (enough v (suc (v / 10)) (v / 10) (omega arith) (omega arith))

-- a fact of every number below ten, and of any that is one of its tens
pub by_tens : (P : ℕ → Type 0) → ((v : ℕ) → v < 10 → P v) → ((v : ℕ) → 10 ≤ v → P (v / 10) → P v) → (v : ℕ) → P v
by_tens P one more v = go (suc v) v (omega arith)
  where
    go : (k v : ℕ) → v < k → P v
    go zero v h = absurd (omega arith)
    go (suc k) v h = ⊎_elim (λ s. one v s) (λ s. more v s (go k (v / 10) (omega arith))) (lt_or_ge v 10)

-- ---- lengths
pub length_more : (v : ℕ) → 10 ≤ v → length (decimal v) ≡ length (decimal (v / 10)) + 1
length_more v h = ap length (decimal_more v h) ∙ length-append (decimal (v / 10)) ((48 + v % 10) ∷ [])

pub decimal_long : (v : ℕ) → 1 ≤ length (decimal v)
decimal_long v = ⊎_elim (λ (s : v < 10). omega (arith, ap length (decimal_one v s))) (λ s. omega (arith, length_more v s)) (lt_or_ge v 10)

-- a number below 10 ^ (k + 1) has no more than k + 1 digits
pub decimal_short : (k v : ℕ) → v < 10 ^ suc k → length (decimal v) ≤ suc k
decimal_short zero v h = omega (arith, ap length (decimal_one v h))
decimal_short (suc k) v h = ⊎_elim
    (λ (s : v < 10). omega (arith, ap length (decimal_one v s)))
    (λ s. omega (arith, length_more v s, decimal_short k (v / 10) (omega (arith, pow-suc 10 (suc k)))))
    (lt_or_ge v 10)

-- ---- one text for each number
-- the number that digits are, behind the number a
worth : ℕ → List ℕ → ℕ
worth a [] = a
worth a (x ∷ xs) = worth (10 * a + (x - 48)) xs

worth_append : (a : ℕ) (xs ys : List ℕ) → worth a (xs ++ ys) ≡ worth (worth a xs) ys
unfolding worth
worth_append a [] ys = refl
worth_append a (x ∷ xs) ys = worth_append (10 * a + (x - 48)) xs ys

worth_decimal : (v : ℕ) → worth 0 (decimal v) ≡ v
unfolding worth
worth_decimal = by_tens (λ v. worth 0 (decimal v) ≡ v)
    (λ v h. ap (worth 0) (decimal_one v h) ∙ omega arith)
    (λ v h r. ap (worth 0) (decimal_more v h) ∙ worth_append 0 (decimal (v / 10)) ((48 + v % 10) ∷ []) ∙ omega (arith, r))

-- different numbers have different texts
pub decimal_injective : (v w : ℕ) → decimal v ≡ decimal w → v ≡ w
decimal_injective v w e = sym (worth_decimal v) ∙ ap (worth 0) e ∙ worth_decimal w

-- ---- the number that a text is
module _ (bound : ℕ) (item : List ℕ) where
  is_text : ℕ → Bool
  is_text v = same (decimal v) item

  -- an item is the text of its number, and of no other
  pub number_hit : (v : ℕ) → v ≤ bound → decimal v ≡ item → number_of bound item ≡ v
  unfolding number_of is_text
  number_hit v h e = least_is is_text (suc bound) v (omega arith)
      (ap (λ (l : List ℕ). same l item) e ∙ same_self item)
      (λ j l. ⊎_elim (λ t. let q = decimal_injective j v (same_true (decimal j) item t ∙ sym e) in absurd (omega arith)) (λ f. f) (dec (same (decimal j) item)))

  pub number_back : number_of bound item ≤ bound → decimal (number_of bound item) ≡ item
  unfolding number_of is_text
  number_back h = same_true _ item (least_hit is_text (suc bound) (omega arith))

  pub number_none : ((v : ℕ) → v ≤ bound → decimal v ≡ item → ⊥) → number_of bound item ≡ suc bound
  unfolding number_of is_text
  number_none f = least_none is_text (suc bound) (λ j l. ⊎_elim (λ t. absurd (f j (omega arith) (same_true (decimal j) item t))) (λ e. e) (dec (same (decimal j) item)))

  pub number_le : number_of bound item ≤ suc bound
  unfolding number_of is_text
  number_le = least_le is_text (suc bound)

-- ---- every byte of it is a digit
pub decimal-every : (p : ℕ → Bool) → ((d : ℕ) → d < 10 → p (48 + d) ≡ true) → (v : ℕ) → every p (decimal v) ≡ true
unfolding every
decimal-every p f = by_tens (λ v. every p (decimal v) ≡ true)
    (λ v h. ap (every p) (decimal_one v h) ∙ rw (f v h))
    (λ v h r. ap (every p) (decimal_more v h) ∙ append (decimal (v / 10)) (v % 10) r (f (v % 10) (omega arith)))
  where
    append : (xs : List ℕ) (d : ℕ) → every p xs ≡ true → p (48 + d) ≡ true → every p (xs ++ (48 + d) ∷ []) ≡ true
    append [] d h k = rw k
    append (x ∷ xs) d h k = let a = both_true (p x) (every p xs) h in rw (a.0, append xs d a.1 k)

-- ---- what a parsed text says
module _ (bound : ℕ) (item : List ℕ) where
  found : number_of bound item ≤ bound → parsed_of bound item ≡ Some (number_of bound item)
  unfolding parsed_of
  found h = rw (le-leb (number_of bound item) bound h)

  lost : bound < number_of bound item → parsed_of bound item ≡ None
  unfolding parsed_of
  lost h = rw (lt-leb (number_of bound item) bound h)

  pub parsed_number : (v : ℕ) → Some v ≡ parsed_of bound item → (v ≡ number_of bound item) × (v ≤ bound)
  parsed_number v e = ⊎_elim
      (λ (l : bound < number_of bound item). let q = lost l in absurd (cc))
      (λ l. let q : v ≡ number_of bound item = let f = found l in cc in (q, omega arith))
      (lt_or_ge bound (number_of bound item))

  pub parsed_nothing : None ≡ parsed_of bound item → suc bound ≡ number_of bound item
  parsed_nothing e = ⊎_elim
      (λ (l : bound < number_of bound item). omega (arith, number_le bound item))
      (λ l. let q = found l in absurd (cc))
      (lt_or_ge bound (number_of bound item))
