-- The subset of a word that comes next. Assumes nothing.
use mathlib.Core.Path.{◌≡◌, ◌∙◌}
use mathlib.Core.Logic.{◌⊎◌, ⊎_elim}
use Prim.Native.Nat.{ℕ, zero, suc, ◌+◌, ◌-◌, ◌*◌, ◌/◌, ◌%◌, ◌^◌, ◌≤◌, ◌<◌, min}
use native.Mathlib.Nat.{eq-zero-or-pos, pow-suc, div-add-mod', mod-eq_of_lt, mod_self}
use native.Mathlib.Omega.{arith}
use lib.Bits.{bit_and, and_step, and_le_r, and_zero_l}
use Rattle.sets.specs.Words.{Inside, Next, next_subset}
use Rattle.sets.proofs.Digits.{digit_and, digits_ext}

inside_half : (j I : ℕ) → Inside j I → Inside (j / 2) (I / 2)
inside_half j I h = omega (arith, and_step j I)

inside_odd : (j I : ℕ) → Inside j I → j % 2 ≤ I % 2
inside_odd j I h = omega (arith, and_step j I)

half_top : (P I j : ℕ) → I < P * 2 → j % 2 ≤ I % 2 → (P * 2 - 1 - I + j) / 2 ≡ P - 1 - I / 2 + j / 2
half_top P I j l o = omega arith

odd_top : (P I j : ℕ) → I < P * 2 → j % 2 ≤ I % 2 → min ((P * 2 - 1 - I + j) % 2) (I % 2) ≡ j % 2
odd_top P I j l o = omega arith

-- of the words of k bits that meet I in j, the greatest
pub top_of : (k I j : ℕ) → I < 2 ^ k → Inside j I → bit_and (2 ^ k - 1 - I + j) I ≡ j
top_of zero I j l h = omega (arith, and_le_r (2 ^ 0 - 1 - I + j) I, and_le_r j I)
top_of (suc k) I j l h =
    let m : I < 2 ^ k * 2 = omega (arith, pow-suc 2 k) in
    let o = inside_odd j I h in
    rw (pow-suc 2 k) (and_step (2 ^ k * 2 - 1 - I + j) I ∙ rw (half_top (2 ^ k) I j m o, odd_top (2 ^ k) I j m o, top_of k (I / 2) (j / 2) (omega arith) (inside_half j I h)) (div-add-mod' j 2))

pub inside_and : (x I : ℕ) → Inside (bit_and x I) I
inside_and x I = digits_ext (bit_and (bit_and x I) I) (bit_and x I) (λ k. omega (arith, digit_and k (bit_and x I) I, digit_and k x I))

-- the lowest bit is in I and not in j: it is added
half_add : (P I j : ℕ) → I < P * 2 → j % 2 < I % 2 → (P * 2 - I + j) / 2 ≡ P - 1 - I / 2 + j / 2
half_add P I j l o = omega arith

odd_add : (P I j : ℕ) → I < P * 2 → j % 2 < I % 2 → min ((P * 2 - I + j) % 2) (I % 2) ≡ 1
odd_add P I j l o = omega arith

-- otherwise it is cleared, and the bits above go on
half_go : (P I j : ℕ) → I < P * 2 → j % 2 ≡ I % 2 → (P * 2 - I + j) / 2 ≡ P - I / 2 + j / 2
half_go P I j l o = omega arith

odd_go : (P I j : ℕ) → I < P * 2 → j % 2 ≡ I % 2 → min ((P * 2 - I + j) % 2) (I % 2) ≡ 0
odd_go P I j l o = omega arith

add_low : (I j m : ℕ) → Inside m I → m ≡ j / 2 * 2 + 1 → j % 2 < I % 2 → Next I j m
add_low I j m h e o = record { inside = h; above = omega arith; no_between = λ i a b s. omega arith }

go_high : (I j m q : ℕ) → Inside m I → m ≡ q * 2 + 0 → j % 2 ≡ I % 2 → Next (I / 2) (j / 2) q → Next I j m
go_high I j m q h e o n = record {
  inside = h;
  above = omega (arith, n.above);
  no_between = λ i a b s. let p = inside_odd i I s in n.no_between (i / 2) (omega arith) (omega arith) (inside_half i I s);
}

-- below I nothing wraps: the step is a sum of j and what I leaves of 2 ^ k
sum_next : (k I j : ℕ) → I < 2 ^ k → Inside j I → j < I → Next I j (bit_and (2 ^ k - I + j) I)
sum_next zero I j l h s = absurd (omega arith)
sum_next (suc k) I j l h s =
    let l' : I < 2 ^ k * 2 = omega (arith, pow-suc 2 k) in
    let o = inside_odd j I h in
    rw (pow-suc 2 k) (⊎_elim
    (λ (e : I % 2 - j % 2 ≡ 0).
    let q : j % 2 ≡ I % 2 = omega arith in
    go_high I j _ (bit_and (2 ^ k - I / 2 + j / 2) (I / 2)) (inside_and (2 ^ k * 2 - I + j) I)
    (and_step (2 ^ k * 2 - I + j) I ∙ rw (half_go (2 ^ k) I j l' q, odd_go (2 ^ k) I j l' q)) q
    (sum_next k (I / 2) (j / 2) (omega arith) (inside_half j I h) (omega arith)))
    (λ (e : 0 < I % 2 - j % 2).
    let q : j % 2 < I % 2 = omega arith in
    add_low I j _ (inside_and (2 ^ k * 2 - I + j) I)
    (and_step (2 ^ k * 2 - I + j) I ∙ rw (half_add (2 ^ k) I j l' q, odd_add (2 ^ k) I j l' q, top_of k (I / 2) (j / 2) (omega arith) (inside_half j I h))) q)
    (eq-zero-or-pos (I % 2 - j % 2)))

step_next : (k I j : ℕ) → I < 2 ^ k → Inside j I → j < I → (x y : ℕ) → x ≡ 2 ^ k - I + j → y ≡ I → Next I j (bit_and (x % 2 ^ k) y)
step_next k I j l h s x y e f =
    let d : x < 2 ^ k = omega arith in
    rw (mod-eq_of_lt d, e, f) (sum_next k I j l h s)

all_round : (k x y : ℕ) → x ≡ 2 ^ k → bit_and (x % 2 ^ k) y ≡ 0
all_round k x y e = rw (e, mod_self (2 ^ k)) (and_zero_l y)

-- ---- what document 02 asks of the step (U4), for every subset of I
-- "no subset lies between the two": j and its next one, where j is not I
pub next_is : (k I j : ℕ) → I < 2 ^ k → Inside j I → j < I → Next I j (next_subset k I j)
unfolding next_subset
next_is k I j l h s = step_next k I j l h s _ _ (omega arith) (omega arith)

-- "the candidate itself goes on to zero"
pub last_to_zero : (k I : ℕ) → next_subset k I I ≡ 0
unfolding next_subset
last_to_zero k I = all_round k _ _ (omega arith)
