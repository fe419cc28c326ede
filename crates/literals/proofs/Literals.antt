-- The literals of a word, lowest first, and a word without its lowest. Assumes nothing.
use Prim.Native.Nat.{ℕ, zero, suc, ◌+◌, ◌-◌, ◌*◌, ◌/◌, ◌%◌, ◌^◌, ◌≤◌, ◌<◌}
use lib.Bits.{bit_and, bit_or, and_step, and_self, and_le_r}
use lib.Count.{count_trailing_zeros, under, ones, ones_step, ones-le}
use lib.Dec.{T, eqb, lit<}
use lib.ListN.{length}
use lib.Pow.{shl_exact}
use mathlib.Core.Bool.{Bool, true, false, not, ◌&&◌, ◌||◌}
use mathlib.Core.List.{List, [], ◌∷◌}
use mathlib.Core.Logic.{◌⊎◌, inl, inr, ⊎_elim}
use mathlib.Core.Path.{◌≡◌, refl, sym, ap, ap₂, ◌∙◌, subst}
use native.Mathlib.Nat.{pow-suc, one-mul}
use native.Mathlib.Omega.{arith}
use Rattle.sets.proofs.Digits.{bit_first, bit_suc, bit-or, bit_ext}
use Rattle.sets.specs.Lists.{◌∈◌, Each, Rising}
use Rattle.sets.specs.Words.{bit, put}
use Rattle.literals.specs.Literals.{here, bits_from, literals, low, Lowest}

-- ---- members

here_in : (d p x : ℕ) (l : List ℕ) → x ∈ l → x ∈ here d p l
here_in zero p x l m = m
here_in (suc d) p x l m = inr m

here_at : (d p : ℕ) (l : List ℕ) → T (eqb d 1) → p ∈ here d p l
here_at zero p l t = absurd t
here_at (suc d) p l t = inl refl

here_out : (d p x : ℕ) (l : List ℕ) → d < 2 → x ∈ here d p l → ((x ≡ p) × T (eqb d 1)) ⊎ (x ∈ l)
here_out zero p x l h m = inr m
here_out (suc zero) p x l h (inl e) = inl (e, tt)
here_out (suc zero) p x l h (inr m) = inr m
here_out (suc (suc d)) p x l h m = absurd (omega arith)

pub bits_in : (k p s x : ℕ) → x < k → T (bit s x) → (p + x) ∈ bits_from k p s
unfolding bits_from
bits_in zero p s x h t = absurd (omega arith)
bits_in (suc k) p s zero h t = let e : p + 0 ≡ p = omega arith in rw e (here_at (s % 2) p (bits_from k (p + 1) (s / 2)) (subst T (bit_first s) t))
bits_in (suc k) p s (suc x) h t =
    let e : p + suc x ≡ p + 1 + x = omega arith in
    rw e (here_in (s % 2) p (p + 1 + x) (bits_from k (p + 1) (s / 2)) (bits_in k (p + 1) (s / 2) x (omega arith) (subst T (bit_suc s x) t)))

pub bits_out : (k p s x : ℕ) → x ∈ bits_from k p s → (p ≤ x) × (x < p + k) × T (bit s (x - p))
unfolding bits_from
bits_out zero p s x m = absurd m
bits_out (suc k) p s x m = ⊎_elim
    (λ (a : (x ≡ p) × T (eqb (s % 2) 1)).
    let q : x - p ≡ 0 = omega (arith, a.0) in
    (omega (arith, a.0), omega (arith, a.0), rw q (subst T (sym (bit_first s)) a.1)))
    (λ i.
    let r = bits_out k (p + 1) (s / 2) x i in
    let q : x - p ≡ suc (x - (p + 1)) = omega (arith, r.0) in
    (omega (arith, r.0), omega (arith, r.1), rw q (subst T (sym (bit_suc s (x - (p + 1)))) r.2)))
    (here_out (s % 2) p x (bits_from k (p + 1) (s / 2)) (omega arith) m)

pub lit_in : (w x : ℕ) → x < 64 → T (bit w x) → x ∈ literals w
lit_in w x h t = let e : 0 + x ≡ x = omega arith in subst (λ z. z ∈ literals w) e (bits_in 64 0 w x h t)

pub lit_out : (w x : ℕ) → x ∈ literals w → (x < 64) × T (bit w x)
lit_out w x m = let r = bits_out 64 0 w x m in let e : x - 0 ≡ x = omega arith in (omega (arith, r.1), subst (λ z. T (bit w z)) e r.2)

here-rising : (d p : ℕ) (l : List ℕ) → Rising l → Each (λ x. p < x) l → Rising (here d p l)
unfolding Rising
here-rising zero p l r f = r
here-rising (suc d) p l r f = (f, r)

pub bits_rising : (k p s : ℕ) → Rising (bits_from k p s)
unfolding bits_from Rising
bits_rising zero p s = tt
bits_rising (suc k) p s = here-rising (s % 2) p (bits_from k (p + 1) (s / 2)) (bits_rising k (p + 1) (s / 2)) (λ x m. let r = bits_out k (p + 1) (s / 2) x m in omega (arith, r.0))

-- ---- the lowest

-- a walk over the set bits, from the lowest, ends
pub low_less : (s : ℕ) → (s ≡ 0 → ⊥) → low s < s
low_less s n = omega (arith, n, and_le_r s (s - 1))

low_odd : (s r : ℕ) → s % 2 ≡ suc r → low s ≡ s / 2 * 2
low_odd s r e =
    let a : (s - 1) / 2 ≡ s / 2 = omega arith in
    let f = and_step s (s - 1) in
    let g : bit_and (s / 2) ((s - 1) / 2) ≡ s / 2 = ap (λ (x : ℕ). bit_and (s / 2) x) a ∙ and_self (s / 2) in
    omega arith

low_even : (s : ℕ) → 0 < s → s % 2 ≡ 0 → low s ≡ low (s / 2) * 2
low_even s h e =
    let a : (s - 1) / 2 ≡ s / 2 - 1 = omega arith in
    let f = and_step s (s - 1) in
    let g : bit_and (s / 2) ((s - 1) / 2) ≡ low (s / 2) = ap (λ (x : ℕ). bit_and (s / 2) x) a in
    omega arith

half_lt : (k s : ℕ) → s < 2 ^ suc k → s / 2 < 2 ^ k
half_lt k s h = let p = pow-suc 2 k in omega arith

bits_dbl : (k p m : ℕ) → bits_from (suc k) p (m * 2) ≡ bits_from k (p + 1) m
unfolding bits_from
bits_dbl k p m =
    let a : m * 2 % 2 ≡ 0 = omega arith in
    let b : m * 2 / 2 ≡ m = omega arith in
    ap₂ (λ (d x : ℕ). here d p (bits_from k (p + 1) x)) a b

bits_low : (k p s : ℕ) → 0 < s → s < 2 ^ k → bits_from k p s ≡ (p + count_trailing_zeros k s) ∷ bits_from k p (low s)
unfolding bits_from count_trailing_zeros
bits_low zero p s h b = absurd (omega arith)
bits_low (suc k) p s h b = go (s % 2) refl (λ q. bits_low k (p + 1) (s / 2) q (half_lt k s b))
  where
    go : (r : ℕ) → s % 2 ≡ r → (0 < s / 2 → bits_from k (p + 1) (s / 2) ≡ (p + 1 + count_trailing_zeros k (s / 2)) ∷ bits_from k (p + 1) (low (s / 2)))
        → here r p (bits_from k (p + 1) (s / 2)) ≡ (p + under r (count_trailing_zeros k (s / 2))) ∷ bits_from (suc k) p (low s)
    go zero e ih =
        ih (omega arith)
        ∙ ap₂ (λ (x : ℕ) (l : List ℕ). x ∷ l) (omega arith) (sym (ap (λ (x : ℕ). bits_from (suc k) p x) (low_even s h e) ∙ bits_dbl k p (low (s / 2))))
    go (suc r) e ih =
        ap₂ (λ (x : ℕ) (l : List ℕ). x ∷ l) (omega arith) (sym (ap (λ (x : ℕ). bits_from (suc k) p x) (low_odd s r e) ∙ bits_dbl k p (s / 2)))

-- the lowest literal is first, and the others are those of the word without it
pub literals_low : (s : ℕ) → (s ≡ 0 → ⊥) → s < 2 ^ 64 → literals s ≡ count_trailing_zeros 64 s ∷ literals (low s)
literals_low s h b = let e : 0 + count_trailing_zeros 64 s ≡ count_trailing_zeros 64 s = omega arith in bits_low 64 0 s (omega (arith, h)) b ∙ ap (λ (t : ℕ). t ∷ literals (low s)) e

pub trailing_lt : (k s : ℕ) → 0 < s → s < 2 ^ k → count_trailing_zeros k s < k
unfolding count_trailing_zeros
trailing_lt zero s h b = absurd (omega arith)
trailing_lt (suc k) s h b = go (s % 2) refl (λ q. trailing_lt k (s / 2) q (half_lt k s b))
  where
    go : (r : ℕ) → s % 2 ≡ r → (0 < s / 2 → count_trailing_zeros k (s / 2) < k) → under r (count_trailing_zeros k (s / 2)) < suc k
    go zero e ih = omega (arith, ih (omega arith))
    go (suc r) e ih = omega arith

pub lowest-small : (s t : ℕ) → (s ≡ 0 → ⊥) → s < 2 ^ 64 → t ≡ count_trailing_zeros 64 s → t < 64
lowest-small s t n b e = omega (arith, trailing_lt 64 s (omega (arith, n)) b)

pub lowest_is : (s t : ℕ) → (s ≡ 0 → ⊥) → s < 2 ^ 64 → t ≡ count_trailing_zeros 64 s → Lowest s t
lowest_is s t n b e = record { fits = b; place = e; small = lowest-small s t n b e }

bits_none : (k p : ℕ) → bits_from k p 0 ≡ []
unfolding bits_from
bits_none zero p = refl
bits_none (suc k) p = bits_none k (p + 1)

pub literals_none : literals 0 ≡ []
literals_none = bits_none 64 0

-- ---- how many literals a word has

here-length : (d p : ℕ) (l : List ℕ) → d < 2 → length (here d p l) ≡ d + length l
here-length zero p l h = omega arith
here-length (suc d) p l h = omega arith

bits_length : (k p s : ℕ) → s < 2 ^ k → length (bits_from k p s) ≡ ones s
unfolding bits_from ones
bits_length zero p s h = let e : 0 ≡ s = omega arith in ap ones e
bits_length (suc k) p s h = here-length (s % 2) p (bits_from k (p + 1) (s / 2)) (omega arith)
    ∙ ap (λ (n : ℕ). s % 2 + n) (bits_length k (p + 1) (s / 2) (let e = pow-suc 2 k in omega arith)) ∙ sym (ones_step s)

pub literals-length : (w : ℕ) → w < 2 ^ 64 → length (literals w) ≡ ones w
literals-length w h = bits_length 64 0 w h

pub literals-few : (w : ℕ) → w < 2 ^ 64 → length (literals w) ≤ 64
literals-few w h = let e = literals-length w h in let o = ones-le 64 w h in omega arith

-- ---- a word without a part of it

digit_minus : (x y : ℕ) → x < 2 → y ≤ x → eqb (x - y) 1 ≡ (eqb x 1 && not (eqb y 1))
digit_minus zero zero h k = refl
digit_minus zero (suc y) h k = absurd (omega arith)
digit_minus (suc zero) zero h k = refl
digit_minus (suc zero) (suc zero) h k = refl
digit_minus (suc zero) (suc (suc y)) h k = absurd (omega arith)
digit_minus (suc (suc x)) y h k = absurd (omega arith)

half_minus : (h s : ℕ) → s / 2 ≤ h / 2 → s % 2 ≤ h % 2 → ((h - s) / 2 ≡ h / 2 - s / 2) × ((h - s) % 2 ≡ h % 2 - s % 2)
half_minus h s a b = (omega arith, omega arith)

parts : (h s : ℕ) → bit_and s h ≡ s → (bit_and (s / 2) (h / 2) ≡ s / 2) × (s / 2 ≤ h / 2) × (s % 2 ≤ h % 2)
parts h s e = let p = and_step s h in let q = and_le_r (s / 2) (h / 2) in let d : bit_and (s / 2) (h / 2) ≡ s / 2 = omega arith in (d, omega arith, omega arith)

-- h without its part s
pub bit_minus : (h s i : ℕ) → bit_and s h ≡ s → bit (h - s) i ≡ (bit h i && not (bit s i))
bit_minus h s zero e =
    let p = parts h s e in
    bit_first (h - s) ∙ ap (λ x. eqb x 1) (half_minus h s p.1 p.2).1 ∙ digit_minus (h % 2) (s % 2) (omega arith) p.2
    ∙ ap₂ (λ (x y : Bool). x && not y) (sym (bit_first h)) (sym (bit_first s))
bit_minus h s (suc i) e =
    let p = parts h s e in
    bit_suc (h - s) i ∙ ap (λ x. bit x i) (half_minus h s p.1 p.2).0 ∙ bit_minus (h / 2) (s / 2) i p.0
    ∙ ap₂ (λ (x y : Bool). x && not y) (sym (bit_suc h i)) (sym (bit_suc s i))

-- ---- one literal put in

put_put_bit : (a b c : Bool) → ((a || b) || c) ≡ ((a || c) || b)
put_put_bit true b c = refl
put_put_bit false true true = refl
put_put_bit false true false = refl
put_put_bit false false true = refl
put_put_bit false false false = refl

-- in either order
pub put_put : (g h w : ℕ) → put h (put g w) ≡ put g (put h w)
put_put g h w = bit_ext (put h (put g w)) (put g (put h w)) (λ k.
    bit-or (put g w) (2 ^ h) k ∙ ap (λ b. b || bit (2 ^ h) k) (bit-or w (2 ^ g) k) ∙ put_put_bit (bit w k) (bit (2 ^ g) k) (bit (2 ^ h) k)
    ∙ ap (λ b. b || bit (2 ^ g) k) (sym (bit-or w (2 ^ h) k)) ∙ sym (bit-or (put h w) (2 ^ g) k))

pub with_is : (j t : ℕ) → t < 64 → bit_or j (1 * 2 ^ t % 2 ^ 64) ≡ put t j
with_is j t h = ap (λ (x : ℕ). bit_or j x) (shl_exact 1 t 64 (lit< tt) (omega arith) ∙ one-mul (2 ^ t))
