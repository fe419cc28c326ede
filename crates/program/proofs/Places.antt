-- Laws of names, of their places, and of words. Assumes nothing.
use mathlib.Core.Path.{◌≡◌, refl, sym, ap, ◌∙◌}
use mathlib.Core.Bool.{Bool, true, ◌&&◌, and-true}
use mathlib.Core.List.{List, [], ◌∷◌}
use Prim.Native.Nat.{ℕ, ◌+◌, ◌-◌, ◌*◌, ◌/◌, ◌%◌, ◌^◌, ◌≤◌, ◌<◌}
use native.Mathlib.Nat.{zero-add, div-eq_of_lt}
use native.Mathlib.Omega.{arith}
use lib.Bits.{bit_and, and_le_r, and_mask}
use lib.Dec.{leb, ltb}
use lib.Pow.{pow_mono}
use lib.ListN.{length, get_or, take, drop, length-drop}
use lib.Seq.{length-take-le}
use borrow.Author.Tests.{lt-ltb}
use Rattle.sets.specs.Lists.{every}
use Rattle.sets.proofs.Highest.{one_shl}
use Rattle.lists.specs.Bytes.{index, end_of, EndsAt}
use Rattle.program.specs.Values.{is_word, value_in}
use Rattle.program.specs.Names.{is_letter, is_plain, is_name, place}

-- ---- words
pub every_word : (n w : ℕ) → 16 ≤ n → w < 2 ^ 32 → true ≡ is_word n w
unfolding is_word
every_word n w h l = sym (lt-ltb w (2 ^ (2 * n)) (omega (arith, pow_mono {i = 32} {j = 2 * n} (omega arith))))

pub no_value : (w i : ℕ) → 16 ≤ i → w < 2 ^ 32 → 0 ≡ value_in w i
unfolding value_in
no_value w i h l =
    let b : w < 2 ^ (2 * i) = omega (arith, pow_mono {i = 32} {j = 2 * i} (omega arith)) in
    sym (ap (λ x. x % 4) (div-eq_of_lt b))

pub word_below : (n w : ℕ) → n < 16 → ltb w (1 * 2 ^ (2 * n) % 2 ^ 32) ≡ is_word n w
unfolding is_word
word_below n w h = ap (ltb w) (one_shl 32 (2 * n) (omega arith))

pub value_masked : (w i r : ℕ) → r ≡ w / 2 ^ (2 * i) % 4 → r ≡ value_in w i
unfolding value_in
value_masked w i r e = e

-- a mask below 256 leaves a byte; the mask 3 leaves the two lowest bits
pub mask_fits : (w m : ℕ) → m < 256 → bit_and w m < 256
mask_fits w m h = omega (arith, and_le_r w m)

pub mask_three : (w : ℕ) → bit_and w 3 ≡ w % 4
mask_three w = and_mask w 2

-- ---- names
pub name_is_lem : (xs : List ℕ) (a b : Bool) → a ≡ every is_plain xs → b ≡ every is_letter (take 1 xs) → leb 1 (length xs) && leb (length xs) 8 && a && b ≡ is_name xs
unfolding is_name
name_is_lem xs a b e f = rw (e, f)

pub first_none : (p : ℕ → Bool) (xs : List ℕ) → length xs ≡ 0 → true ≡ every p (take 1 xs)
unfolding every
first_none p [] h = refl
first_none p (x ∷ xs) h = absurd (omega arith)

pub first_is : (p : ℕ → Bool) (xs : List ℕ) (r : Bool) → (length xs ≡ 0 → ⊥) → r ≡ p (get_or xs 0 0) → r ≡ every p (take 1 xs)
unfolding every
first_is p [] r h e = absurd (h refl)
first_is p (x ∷ xs) r h e = e ∙ sym (and-true (p x))

pub end_zero : (c : ℕ) (xs : List ℕ) → end_of c xs 0 ≡ index c xs
unfolding end_of
end_zero c xs = zero-add (index c xs)

pub up_to : (c : ℕ) (xs : List ℕ) (n : ℕ) → EndsAt xs c 0 n → length (take n xs) ≡ n
up_to c xs n e = length-take-le n xs (omega (arith, e.to))

-- ---- places
pub place_part : (xs : List ℕ) (i : ℕ) → take (8 * i + 8 - 8 * i) (drop (8 * i) xs) ≡ place xs i
unfolding place
place_part xs i = let e : 8 * i + 8 - 8 * i ≡ 8 = omega arith in rw e

pub place_long : (xs : List ℕ) (i : ℕ) → 8 * (i + 1) ≤ length xs → length (place xs i) ≡ 8
unfolding place
place_long xs i h = length-take-le 8 (drop (8 * i) xs) (omega (arith, length-drop (8 * i) xs))
