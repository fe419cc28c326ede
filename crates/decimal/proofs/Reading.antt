-- Reading a number digit by digit, and putting it. Assumes nothing.
use mathlib.Core.Path.{◌≡◌, refl, sym, ap, ap₂, ◌∙◌}
use mathlib.Core.Bool.{Bool, true, false, not, ◌&&◌, and-false}
use mathlib.Core.Logic.{◌⊎◌, ⊎_elim}
use mathlib.Core.List.{List, [], ◌∷◌, ◌++◌}
use Prim.Native.Nat.{ℕ, zero, suc, ◌+◌, ◌-◌, ◌*◌, ◌/◌, ◌%◌, ◌^◌, ◌≤◌, ◌<◌}
use native.Mathlib.Numerals.{add-one}
use native.Mathlib.Omega.{arith}
use lib.Dec.{ltb, leb}
use lib.ListN.{length, get_or, take, set, length-append}
use lib.Seq.{take_all, take-suc, take-append_seam, get_or-append-add}
use borrow.Author.Tests.{lt-ltb, le-leb, lt-leb, ltb-true, leb-true}
use Rattle.sets.proofs.Tests.{lt_or_ge, both_true, clash, via_true}
use Rattle.lists.specs.Bytes.{Wrote}
use Rattle.lists.proofs.Writing.{Put, put_byte, put_done, put_long, wrote_put}
use Rattle.std.proofs.Common.{Some, None}
use Rattle.decimal.specs.Decimal.{decimal, parsed_of, digit_of, goes_on}
use Rattle.decimal.proofs.Laws.{decimal_one, decimal_more, by_tens, length_more, decimal_long, decimal_injective, number_hit, number_none}

-- ---- digits
pub digit_low : (x : ℕ) → x < 48 → 10 ≡ digit_of x
unfolding digit_of
digit_low x h = rw (lt-leb 48 x h)

pub digit_high : (x : ℕ) → 57 < x → 10 ≡ digit_of x
unfolding digit_of
digit_high x h = rw (lt-leb x 57 h, and-false)

pub digit_is : (x : ℕ) → 48 ≤ x → x ≤ 57 → x - 48 ≡ digit_of x
unfolding digit_of
digit_is x h l = rw (le-leb 48 x h, le-leb x 57 l)

digit_of_lem : (d : ℕ) → d < 10 → digit_of (48 + d) ≡ d
digit_of_lem d h = sym (digit_is (48 + d) (omega arith) (omega arith)) ∙ omega arith

byte_of : (x : ℕ) → digit_of x < 10 → 48 + digit_of x ≡ x
byte_of x h = ⊎_elim
    (λ (l : x < 48). absurd (omega (arith, digit_low x l)))
    (λ l. ⊎_elim (λ (g : 57 < x). absurd (omega (arith, digit_high x g))) (λ g. omega (arith, digit_is x l g)) (lt_or_ge 57 x))
    (lt_or_ge x 48)

pub over_bound : (v d bound : ℕ) → bound < d → false ≡ goes_on v d bound
unfolding goes_on
over_bound v d bound h = rw (lt-leb (10 * v + d) bound (omega arith), and-false)

pub goes : (v d bound : ℕ) → d ≤ bound → leb 1 v && ltb d 10 && leb v ((bound - d) / 10) ≡ goes_on v d bound
unfolding goes_on
goes v d bound h = ap (λ (b : Bool). leb 1 v && ltb d 10 && b) (⊎_elim
    (λ (l : (bound - d) / 10 < v). rw (lt-leb v ((bound - d) / 10) l, lt-leb (10 * v + d) bound (omega arith)))
    (λ l. rw (le-leb v ((bound - d) / 10) l, le-leb (10 * v + d) bound (omega arith)))
    (lt_or_ge ((bound - d) / 10) v))

pub goes_tests : (v d bound : ℕ) → goes_on v d bound ≡ (leb d bound && leb 1 v && ltb d 10 && leb v ((bound - d) / 10))
goes_tests v d bound = ⊎_elim
    (λ (l : bound < d). sym (over_bound v d bound l) ∙ rw (lt-leb d bound l))
    (λ l. sym (goes v d bound l) ∙ rw (le-leb d bound l))
    (lt_or_ge bound d)

-- ---- the first digits of a number's text are a number's text
one_more : (xs : List ℕ) (i : ℕ) → i < length xs → take (i + 1) xs ≡ take i xs ++ get_or xs i 0 ∷ []
one_more xs i h = ap (λ (k : ℕ). take k xs) (add-one i) ∙ take-suc xs i 0 h

take_front : (xs ys : List ℕ) (i : ℕ) → i ≤ length xs → take i (xs ++ ys) ≡ take i xs
take_front xs ys zero h = refl
take_front [] ys (suc i) h = absurd (omega arith)
take_front (x ∷ xs) ys (suc i) h = ap (λ (l : List ℕ). x ∷ l) (take_front xs ys i (omega arith))

abbrev Prefix : ℕ → Type 0
Prefix w = (i : ℕ) → 1 ≤ i → i ≤ length (decimal w) → (u : ℕ) × (decimal u ≡ take i (decimal w)) × (u ≤ w)

prefix : (w : ℕ) → Prefix w
prefix = by_tens Prefix
    (λ w h i a b. (w, sym (take_all i (decimal w) (omega (arith, ap length (decimal_one w h)))), omega arith))
    (λ w h r i a b. ⊎_elim
    (λ (l : length (decimal (w / 10)) < i). (w, sym (take_all i (decimal w) (omega (arith, length_more w h))), omega arith))
    (λ l. let s = r i a l in (
      s.0,
      s.1 ∙ sym (take_front (decimal (w / 10)) ((48 + w % 10) ∷ []) i l) ∙ ap (take i) (sym (decimal_more w h)),
      omega (arith, s.2),
    ))
    (lt_or_ge (length (decimal (w / 10))) i))

last_same : (xs ys : List ℕ) (x y : ℕ) → length xs ≡ length ys → xs ++ x ∷ [] ≡ ys ++ y ∷ [] → (xs ≡ ys) × (x ≡ y)
last_same xs ys x y l e = (
  sym (take-append_seam xs (x ∷ [])) ∙ ap₂ (λ (n : ℕ) (t : List ℕ). take n t) l e ∙ take-append_seam ys (y ∷ []),
  sym (get_or-append-add xs (x ∷ []) 0 0) ∙ ap₂ (λ (n : ℕ) (t : List ℕ). get_or t (n + 0) 0) l e ∙ get_or-append-add ys (y ∷ []) 0 0,
)

-- a number whose text is that of v and one byte more
last_digit : (u v x : ℕ) → decimal u ≡ decimal v ++ x ∷ [] → (u / 10 ≡ v) × (48 + u % 10 ≡ x) × (10 ≤ u)
last_digit u v x e = ⊎_elim
    (λ (l : u < 10). absurd (omega (arith, ap length (decimal_one u l), ap length e, length-append (decimal v) (x ∷ []), decimal_long v)))
    (λ l. let r = last_same (decimal (u / 10)) (decimal v) (48 + u % 10) x (omega (arith, length_more u l, ap length e, length-append (decimal v) (x ∷ []))) (sym (decimal_more u l) ∙ e) in
    (decimal_injective (u / 10) v r.0, r.1, l))
    (lt_or_ge u 10)

append_digit : (v d : ℕ) → 1 ≤ v → d < 10 → decimal (10 * v + d) ≡ decimal v ++ (48 + d) ∷ []
append_digit v d h l =
    let a : (10 * v + d) / 10 ≡ v = omega arith in
    let b : (10 * v + d) % 10 ≡ d = omega arith in
    decimal_more (10 * v + d) (omega arith) ∙ rw (a, b)

-- what a digit that goes on is
record Goes (v d bound : ℕ) : Type 0 where
  one_up : 1 ≤ v
  digit : d < 10
  small : 10 * v + d ≤ bound

goes_parts : (v d bound : ℕ) → goes_on v d bound ≡ true → Goes v d bound
unfolding goes_on
goes_parts v d bound t =
    let a = both_true (leb 1 v && ltb d 10) (leb (10 * v + d) bound) t in
    let b = both_true (leb 1 v) (ltb d 10) a.0 in
    record { one_up = leb-true 1 v b.0; digit = ltb-true d 10 b.1; small = leb-true (10 * v + d) bound a.1 }

goes_true : (v d bound : ℕ) → 1 ≤ v → d < 10 → 10 * v + d ≤ bound → goes_on v d bound ≡ true
unfolding goes_on
goes_true v d bound a b c = rw (le-leb 1 v a, lt-ltb d 10 b, le-leb (10 * v + d) bound c)

-- the sum, and the product in it, are at most the bound, and so fit where it does
module _ (v d bound : ℕ) {r : Bool} (e : r ≡ goes_on v d bound) (t : not r ≡ false) (f : bound < 2 ^ 64) where
  pub parse_fits : 10 * v + d < 2 ^ 64
  parse_fits = omega (arith, (goes_parts v d bound (via_true e t)).small)

  pub parse_tens_fit : 10 * v < 2 ^ 64
  parse_tens_fit = omega (arith, (goes_parts v d bound (via_true e t)).small)

-- ---- reading
module _ (s : List ℕ) (bound : ℕ) where
  -- the first i bytes are the text of v
  pub record Parsing (i v : ℕ) : Type 0 where
    pub one_up : 1 ≤ i
    pub within : i ≤ length s
    pub small : v ≤ bound
    pub text : decimal v ≡ take i s

  none : ((w : ℕ) → w ≤ bound → decimal w ≡ s → ⊥) → None ≡ parsed_of bound s
  unfolding parsed_of
  none f = rw (number_none bound s f, lt-leb (suc bound) bound (omega arith))

  -- the first i bytes of a number's text are the text of one no larger
  front : (w i : ℕ) → decimal w ≡ s → 1 ≤ i → i ≤ length s → (u : ℕ) × (decimal u ≡ take i s) × (u ≤ w)
  front w i e a b = let r = prefix w i a (omega (arith, ap length e)) in (r.0, r.1 ∙ ap (take i) e, r.2)

  pub parse_empty : length s ≡ 0 → None ≡ parsed_of bound s
  parse_empty h = none (λ w l e. omega (arith, ap length e, decimal_long w))

  start_of : (length s ≡ 0 → ⊥) → take 1 s ≡ get_or s 0 0 ∷ []
  start_of h = one_more s 0 (omega arith)

  pub parse_start : (d : ℕ) → (length s ≡ 0 → ⊥) → d ≡ digit_of (get_or s 0 0) → d ≤ 9 → d ≤ bound → Parsing 1 d
  parse_start d h e l m =
      record {
        one_up = omega arith;
        within = omega arith;
        small = m;
        text = decimal_one d (omega arith) ∙ ap (λ (x : ℕ). x ∷ []) (ap (λ (x : ℕ). 48 + x) e ∙ byte_of (get_or s 0 0) (omega arith)) ∙ sym (start_of h);
      }

  pub parse_not : (d : ℕ) → (length s ≡ 0 → ⊥) → d ≡ digit_of (get_or s 0 0) → (9 < d) ⊎ (bound < d) → None ≡ parsed_of bound s
  parse_not d h e t = none (λ w l q.
      let r = front w 1 q (omega arith) (omega arith) in
      let u = r.0 in
      let c : decimal u ≡ get_or s 0 0 ∷ [] = r.1 ∙ start_of h in
      let k : u < 10 = ⊎_elim (λ (a : u < 10). a) (λ a. absurd (omega (arith, length_more u a, decimal_long (u / 10), ap length c))) (lt_or_ge u 10) in
      let x : 48 + u ≡ get_or s 0 0 = ap (λ (z : List ℕ). get_or z 0 0) (sym (decimal_one u k) ∙ c) in
      let y : d ≡ u = e ∙ ap digit_of (sym x) ∙ digit_of_lem u k in
      ⊎_elim (λ (a : 9 < d). omega arith) (λ a. omega (arith, r.2)) t)

  pub parse_more : (i v d : ℕ) {r : Bool} → Parsing i v → i < length s → d ≡ digit_of (get_or s i 0) → r ≡ goes_on v d bound → not r ≡ false → Parsing (i + 1) (10 * v + d)
  parse_more i v d p h e q t =
      let g = goes_parts v d bound (via_true q t) in
      let l = g.digit in
      record {
        one_up = omega arith;
        within = omega arith;
        small = g.small;
        text = append_digit v d g.one_up g.digit
            ∙ ap₂ (λ (xs : List ℕ) (x : ℕ). xs ++ x ∷ []) p.text (ap (λ (x : ℕ). 48 + x) e ∙ byte_of (get_or s i 0) (omega arith))
            ∙ sym (one_more s i h);
      }

  pub parse_stop : (i v d : ℕ) → Parsing i v → i < length s → d ≡ digit_of (get_or s i 0) → goes_on v d bound ≡ false → None ≡ parsed_of bound s
  parse_stop i v d p h e f = none (λ w l q.
      let r = front w (i + 1) q (omega arith) (omega arith) in
      let u = r.0 in
      let k = last_digit u v (get_or s i 0) (r.1 ∙ one_more s i h ∙ ap (λ (xs : List ℕ). xs ++ get_or s i 0 ∷ []) (sym p.text)) in
      let y : d ≡ u % 10 = e ∙ ap digit_of (sym k.1) ∙ digit_of_lem (u % 10) (omega arith) in
      clash (goes_on v d bound) (goes_true v d bound (omega (arith, k.0, k.2)) (omega arith) (omega (arith, k.0, r.2))) f)

  pub parse_done : (i v : ℕ) → Parsing i v → length s ≤ i → Some v ≡ parsed_of bound s
  unfolding parsed_of
  parse_done i v p h =
      let e = number_hit bound s v p.small (p.text ∙ take_all i s h) in
      rw (e, le-leb v bound p.small)

-- ---- putting
pub put_some : (v : ℕ) (xs : List ℕ) → length (decimal v) ≤ length xs → 0 < length xs
put_some v xs h = omega (arith, decimal_long v)

pub put_one : (v b : ℕ) (xs : List ℕ) → v < 10 → length (decimal v) ≤ length xs → b ≡ 48 + v → Wrote (decimal v) xs 1 (set xs 0 b)
put_one v b [] h l e = absurd (omega (arith, ap length (decimal_one v h)))
put_one v b (x ∷ xs) h l e = rw (decimal_one v h, e) (record { size = refl; whole = refl })

module _ (v n : ℕ) (xs ys : List ℕ) (h : 10 ≤ v) (l : length (decimal v) ≤ length xs) (w : Wrote (decimal (v / 10)) xs n ys) where
  next : Put xs (decimal v) n ys ((48 + v % 10) ∷ [])
  next = rw (decimal_more v h) (wrote_put xs (decimal (v / 10)) ((48 + v % 10) ∷ []) ys n (rw (decimal_more v h) at l) w)

  pub put_behind : n < length ys
  put_behind = omega (arith, w.size, length_more v h, put_long xs (decimal v) n ys _ next)

  pub put_fits : length xs < 2 ^ 64 → n + 1 < 2 ^ 64
  put_fits f = omega (arith, w.size, length_more v h)

  pub put_more : (b : ℕ) → b ≡ 48 + v % 10 → Wrote (decimal v) xs (n + 1) (set ys n b)
  put_more b e = rw e (put_done xs (decimal v) (n + 1) (set ys n (48 + v % 10)) (put_byte xs (decimal v) n ys (48 + v % 10) [] next))

pub tens_room : (v : ℕ) (xs : List ℕ) → 10 ≤ v → length (decimal v) ≤ length xs → length (decimal (v / 10)) ≤ length xs
tens_room v xs h l = omega (arith, length_more v h)
