-- Laws of digits, and what the tests on words say digit by digit. Assumes nothing.
use mathlib.Core.Path.{◌≡◌, refl, sym, ap, ◌∙◌, subst, fun_ext}
use mathlib.Core.Logic.{◌↔◌, ◌⊎◌, ⊎_elim}
use mathlib.Core.Bool.{Bool, true, false, cond, ◌&&◌, ◌||◌}
use mathlib.Core.Bool as tests
use Prim.Native.Nat.{ℕ, zero, suc, ◌+◌, ◌-◌, ◌*◌, ◌/◌, ◌%◌, ◌^◌, ◌≤◌, ◌<◌, min, max}
use native.Mathlib.Nat.{eq-zero-or-pos, pow-suc, div-one}
use native.Mathlib.Numerals.{one-add}
use lib.Pow.{shr-shr, field, mod-mod-pow}
use native.Mathlib.Omega.{arith}
use lib.Dec.{T, eqb, eqb→eq}
use lib.Bits.{bit_and, bit_or, and_step, or_step, and_comm, and_le_r, and_mask}
use borrow.Author.Tests.{eqb-true, eqb-false, eq-eqb, ne_eqb}
use Rattle.sets.specs.Words.{Set, ◌⊑◌, digit, bit, Inside, Apart, inside}
use Rattle.sets.proofs.Tests.{dec, lt_or_ge, true_T, not_T_false, T_ext, T_and, T_and_l, T_and_r}

-- ---- digits
pub digit_lt : (k w : ℕ) → digit k w < 2
unfolding digit
digit_lt zero w = omega arith
digit_lt (suc k) w = digit_lt k (w / 2)

pub digit_zero : (k : ℕ) → digit k 0 ≡ 0
unfolding digit
digit_zero zero = refl
digit_zero (suc k) = digit_zero k

pub digit_and : (k a b : ℕ) → digit k (bit_and a b) ≡ min (digit k a) (digit k b)
unfolding digit
digit_and zero a b = omega (arith, and_step a b)
digit_and (suc k) a b =
    let e : bit_and a b / 2 ≡ bit_and (a / 2) (b / 2) = omega (arith, and_step a b) in
    ap (digit k) e ∙ digit_and k (a / 2) (b / 2)

pub digit_or : (k a b : ℕ) → digit k (bit_or a b) ≡ max (digit k a) (digit k b)
unfolding digit
digit_or zero a b = omega (arith, or_step a b)
digit_or (suc k) a b =
    let e : bit_or a b / 2 ≡ bit_or (a / 2) (b / 2) = omega (arith, or_step a b) in
    ap (digit k) e ∙ digit_or k (a / 2) (b / 2)

pow_half : (k : ℕ) → 2 ^ suc k / 2 ≡ 2 ^ k
pow_half k = omega (arith, pow-suc 2 k)

pub digit_pow_same : (k : ℕ) → digit k (2 ^ k) ≡ 1
unfolding digit
digit_pow_same zero = refl
digit_pow_same (suc k) = ap (digit k) (pow_half k) ∙ digit_pow_same k

pub digit_pow_other : (j k : ℕ) → (j ≡ k → ⊥) → digit j (2 ^ k) ≡ 0
unfolding digit
digit_pow_other zero zero d = absurd (d refl)
digit_pow_other zero (suc k) d = omega (arith, pow-suc 2 k)
digit_pow_other (suc j) zero d = digit_zero j
digit_pow_other (suc j) (suc k) d = ap (digit j) (pow_half k) ∙ digit_pow_other j k (λ e. d (ap suc e))

-- a word below 2 ^ m has no digit at m or above
pub digit-small : (k m w : ℕ) → w < 2 ^ m → m ≤ k → digit k w ≡ 0
unfolding digit
digit-small k zero w h l = let e : w ≡ 0 = omega arith in ap (digit k) e ∙ digit_zero k
digit-small zero (suc m) w h l = absurd (omega arith)
digit-small (suc k) (suc m) w h l = digit-small k m (w / 2) (omega (arith, pow-suc 2 m)) (omega arith)

ext : (n a b : ℕ) → a ≤ n → b ≤ n → ((k : ℕ) → digit k a ≡ digit k b) → a ≡ b
unfolding digit
ext zero a b p q h = omega arith
ext (suc n) a b p q h = omega (arith, h 0, ext n (a / 2) (b / 2) (omega arith) (omega arith) (λ k. h (suc k)))

pub digits_ext : (a b : ℕ) → ((k : ℕ) → digit k a ≡ digit k b) → a ≡ b
digits_ext a b = ext (a + b) a b (omega arith) (omega arith)

some_digit : (n w : ℕ) → w ≤ n → 0 < w → (k : ℕ) × (digit k w ≡ 1)
unfolding digit
some_digit zero w p q = absurd (omega arith)
some_digit (suc n) w p q = ⊎_elim
    (λ e. let r = some_digit n (w / 2) (omega arith) (omega arith) in (suc r.0, r.1))
    (λ e. (0, omega arith))
    (eq-zero-or-pos (w % 2))

-- a is inside b: each digit of a is a digit of b
pub inside_digits : (a b : ℕ) → Inside a b ↔ ((k : ℕ) → digit k a ≤ digit k b)
inside_digits a b = (
  λ h k. omega (arith, ap (digit k) h, digit_and k a b),
  λ h. digits_ext (bit_and a b) a (λ k. omega (arith, h k, digit_and k a b)),
)

-- a is not apart from b: they share a digit
pub meets_digits : (a b : ℕ) → (Apart a b → ⊥) ↔ ((k : ℕ) × (digit k a ≡ 1) × (digit k b ≡ 1))
meets_digits a b = (
  λ h. let r = some_digit (bit_and a b) (bit_and a b) (omega arith) (⊎_elim (λ e. absurd (h e)) (λ p. p) (eq-zero-or-pos (bit_and a b))) in
      let e = digit_and r.0 a b in
      let q = r.1 in
      let l = digit_lt r.0 a in
      let m = digit_lt r.0 b in
      (r.0, omega arith, omega arith),
  λ r e. omega (arith, r.1, r.2, digit_and r.0 a b, ap (digit r.0) e, digit_zero r.0),
)

pub inside_le : (a b : ℕ) → Inside a b → a ≤ b
inside_le a b h = omega (arith, and_le_r a b)

-- ---- the set that a word stands for
pub bit_digit : (w i : ℕ) → T (bit w i) → digit i w ≡ 1
unfolding bit
bit_digit w i t = eqb→eq (digit i w) 1 t

pub digit-bit : (w i : ℕ) → digit i w ≡ 1 → T (bit w i)
unfolding bit
digit-bit w i e = true_T _ (eq-eqb (digit i w) 1 e)

-- a is inside b exactly where each bit of a is in b
pub inside_bits : (a b : ℕ) → Inside a b ↔ (bit a ⊑ bit b)
inside_bits a b = (
  λ h i t. digit-bit b i (omega (arith, (inside_digits a b).0 h i, bit_digit a i t, digit_lt i b)),
  λ s. (inside_digits a b).1 (λ k. ⊎_elim
      (λ e. omega arith)
      (λ p. let q = bit_digit b k (s k (digit-bit a k (omega (arith, digit_lt k a)))) in omega (arith, digit_lt k a))
      (eq-zero-or-pos (digit k a))),
)

-- a meets b exactly where they share a bit
pub meets_bits : (a b : ℕ) → (Apart a b → ⊥) ↔ ((i : ℕ) × T (bit a i) × T (bit b i))
meets_bits a b = (
  λ h. let r = (meets_digits a b).0 h in (r.0, digit-bit a r.0 r.1, digit-bit b r.0 r.2),
  λ r. (meets_digits a b).1 (r.0, bit_digit a r.0 r.1, bit_digit b r.0 r.2),
)

-- words with the same bits are equal
pub bits_ext : (a b : ℕ) → bit a ⊑ bit b → bit b ⊑ bit a → a ≡ b
bits_ext a b f g = sym ((inside_bits a b).1 f) ∙ and_comm a b ∙ (inside_bits b a).1 g

pub bit_zero : (i : ℕ) → bit 0 i ≡ false
unfolding bit
bit_zero i = ap (λ x. eqb x 1) (digit_zero i)

pub bit_pow : (k i : ℕ) → bit (2 ^ k) i ≡ eqb i k
unfolding bit
bit_pow k i = ⊎_elim
    (λ t. let e = eqb-true i k t in ap (λ j. eqb (digit j (2 ^ k)) 1) e ∙ ap (λ x. eqb x 1) (digit_pow_same k) ∙ sym t)
    (λ f. ap (λ x. eqb x 1) (digit_pow_other i k (eqb-false i k f)) ∙ sym f)
    (dec (eqb i k))

pub bit-and : (a b i : ℕ) → bit (bit_and a b) i ≡ (bit a i && bit b i)
bit-and a b i = T_ext (bit (bit_and a b) i) (bit a i && bit b i)
    (λ t.
    let e = bit_digit (bit_and a b) i t in
    let d = digit_and i a b in
    let l = digit_lt i a in
    let m = digit_lt i b in
    T_and (bit a i) (bit b i) (digit-bit a i (omega arith)) (digit-bit b i (omega arith)))
    (λ t.
    let p = bit_digit a i (T_and_l (bit a i) (bit b i) t) in
    let q = bit_digit b i (T_and_r (bit a i) (bit b i) t) in
    digit-bit (bit_and a b) i (omega (arith, digit_and i a b)))

pub bit-or : (a b i : ℕ) → bit (bit_or a b) i ≡ (bit a i || bit b i)
unfolding bit
bit-or a b i = go (digit i a) (digit i b) (digit i (bit_or a b)) (digit_lt i a) (digit_lt i b) (digit_or i a b)
  where
    go : (x y z : ℕ) → x < 2 → y < 2 → z ≡ max x y → eqb z 1 ≡ (eqb x 1 || eqb y 1)
    go zero zero z p q e = ne_eqb z 1 (omega arith)
    go zero (suc zero) z p q e = eq-eqb z 1 (omega arith)
    go zero (suc (suc y)) z p q e = absurd (omega arith)
    go (suc zero) y z p q e = eq-eqb z 1 (omega arith)
    go (suc (suc x)) y z p q e = absurd (omega arith)

pub bit-small : (w m i : ℕ) → w < 2 ^ m → T (bit w i) → i < m
bit-small w m i h t = ⊎_elim (λ l. l) (λ g. absurd (let z = digit-small i m w h g in let e = bit_digit w i t in omega arith)) (lt_or_ge i m)

pub digit_div : (k w : ℕ) → digit k w ≡ w / 2 ^ k % 2
unfolding digit
digit_div zero w = ap (λ x. x % 2) (sym (div-one w))
digit_div (suc k) w =
    let e : w / 2 / 2 ^ k ≡ w / 2 ^ suc k = shr-shr w 1 k ∙ ap (λ x. w / 2 ^ x) (one-add k) in
    digit_div k (w / 2) ∙ ap (λ x. x % 2) e

-- ---- the bits of a word and of its parts
pub bit_ext : (a b : ℕ) → ((i : ℕ) → bit a i ≡ bit b i) → a ≡ b
bit_ext a b h = bits_ext a b (λ i t. subst T (h i) t) (λ i t. subst T (sym (h i)) t)

pub or_assoc : (a b c : ℕ) → bit_or (bit_or a b) c ≡ bit_or a (bit_or b c)
or_assoc a b c =
    bit_ext (bit_or (bit_or a b) c) (bit_or a (bit_or b c))
    (λ i. rw (bit-or (bit_or a b) c i, bit-or a b i, bit-or a (bit_or b c) i, bit-or b c i) (tests.or_assoc (bit a i) (bit b i) (bit c i)))

pub inside→⊑ : (a b : ℕ) → T (inside a b) → bit a ⊑ bit b
inside→⊑ a b t = (inside_bits a b).0 (eqb→eq (bit_and a b) a t)

pub ⊑→inside : (a b : ℕ) → bit a ⊑ bit b → T (inside a b)
⊑→inside a b s = true_T _ (eq-eqb (bit_and a b) a ((inside_bits a b).1 s))

pub bit_div : (w i : ℕ) → bit w i ≡ eqb (w / 2 ^ i % 2) 1
unfolding bit
bit_div w i = ap (λ x. eqb x 1) (digit_div i w)

-- one bit, as a shift and a test give it
pub bit_clear : (w i : ℕ) → bit_and (w / 2 ^ i) 1 ≡ 0 → bit w i ≡ false
bit_clear w i h = bit_div w i ∙ ne_eqb (w / 2 ^ i % 2) 1 (λ e. omega (arith, and_mask (w / 2 ^ i) 1))

pub bit_set : (w i : ℕ) → (bit_and (w / 2 ^ i) 1 ≡ 0 → ⊥) → bit w i ≡ true
bit_set w i h = bit_div w i ∙ eq-eqb (w / 2 ^ i % 2) 1 (omega (arith, h, and_mask (w / 2 ^ i) 1))

pub bit_first : (w : ℕ) → bit w zero ≡ eqb (w % 2) 1
unfolding bit digit
bit_first w = refl

pub bit_suc : (w i : ℕ) → bit w (suc i) ≡ bit (w / 2) i
unfolding bit digit
bit_suc w i = refl

pub bit_shr : (w m i : ℕ) → bit (w / 2 ^ m) i ≡ bit w (m + i)
bit_shr w m i = bit_div (w / 2 ^ m) i ∙ ap (λ x. eqb (x % 2) 1) (shr-shr w m i) ∙ sym (bit_div w (m + i))

low_by : (w j i : ℕ) → bit (w % 2 ^ (j + 1 + i)) i ≡ bit w i
low_by w j i =
    bit_div (w % 2 ^ (j + 1 + i)) i ∙ ap (λ x. eqb (x % 2) 1) (field w (j + 1) i) ∙ ap (λ x. eqb x 1) (mod-mod-pow (w / 2 ^ i) j 1)
    ∙ sym (bit_div w i)

pub bit_low : (w m i : ℕ) → i < m → bit (w % 2 ^ m) i ≡ bit w i
bit_low w m i h = let e : m - suc i + 1 + i ≡ m = omega arith in ap (λ k. bit (w % 2 ^ k) i) (sym e) ∙ low_by w (m - suc i) i

-- ---- a finite set of numbers is a word
-- the word of a set's members below k
unfoldable pub word_from : ℕ → Set ℕ → ℕ
word_from zero J = 0
word_from (suc k) J = cond (J 0) 1 0 + word_from k (λ i. J (suc i)) * 2

from_in : (k : ℕ) (J : Set ℕ) (i : ℕ) → i < k → digit i (word_from k J) ≡ cond (J i) 1 0
unfolding word_from digit
from_in zero J i h = absurd (omega arith)
from_in (suc k) J zero h = go (J 0)
  where
    go : (b : Bool) → (cond b 1 0 + word_from k (λ i. J (suc i)) * 2) % 2 ≡ cond b 1 0
    go true = omega arith
    go false = omega arith
from_in (suc k) J (suc i) h = ap (digit i) (go (J 0)) ∙ from_in k (λ j. J (suc j)) i (omega arith)
  where
    go : (b : Bool) → (cond b 1 0 + word_from k (λ j. J (suc j)) * 2) / 2 ≡ word_from k (λ j. J (suc j))
    go true = omega arith
    go false = omega arith

from_lt : (k : ℕ) (J : Set ℕ) → word_from k J < 2 ^ k
unfolding word_from
from_lt zero J = omega arith
from_lt (suc k) J = go (J 0) (from_lt k (λ i. J (suc i)))
  where
    go : (b : Bool) → word_from k (λ i. J (suc i)) < 2 ^ k → cond b 1 0 + word_from k (λ i. J (suc i)) * 2 < 2 ^ suc k
    go true h = omega (arith, pow-suc 2 k)
    go false h = omega (arith, pow-suc 2 k)

pub set_word : (m : ℕ) (J : Set ℕ) → ((x : ℕ) → T (J x) → x < m) → (w : ℕ) × (bit w ≡ J)
unfolding bit
set_word m J h = (
  word_from m J,
  fun_ext (λ i. ⊎_elim
      (λ (l : i < m). ap (λ x. eqb x 1) (from_in m J i l) ∙ one (J i))
      (λ (g : m ≤ i). ap (λ x. eqb x 1) (digit-small i m (word_from m J) (from_lt m J) g) ∙ sym (not_T_false (J i) (λ t. let k = h i t in omega arith)))
      (lt_or_ge i m)),
)
  where
    one : (b : Bool) → eqb (cond b 1 0) 1 ≡ b
    one true = refl
    one false = refl

pub below_pow : (n : ℕ) → n < 2 ^ n
below_pow zero = omega arith
below_pow (suc n) = omega (arith, below_pow n, pow-suc 2 n)
