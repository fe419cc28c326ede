-- The text of good names and rows is accepted, and an accepted text has such. Assumes nothing.
use mathlib.Core.Path.{◌≡◌, refl, sym, ap, ◌∙◌}
use mathlib.Core.Bool.{Bool, true, false, cond, not, ◌||◌, or-true}
use mathlib.Core.List.{List, [], ◌∷◌, ◌++◌, map, tail, append_assoc, map-append}
use Prim.Native.Nat.{ℕ, ◌+◌, ◌-◌, ◌*◌, ◌≤◌, ◌<◌}
use native.Mathlib.Nat.{mul-suc}
use native.Mathlib.Omega.{arith}
use lib.Dec.{eqb, leb}
use lib.ListN.{length, get_or, take, drop, length-append, length-map, length-drop, take-append-drop}
use lib.Seq.{get_or-append-add}
use borrow.Author.Tests.{eq-eqb, ne_eqb, leb-true, le-leb, le-ltb, not-true}
use Rattle.sets.specs.Lists.{every, any_of}
use Rattle.sets.proofs.Tests.{both_true}
use Rattle.sets.proofs.Lists.{every_append, every_mono}
use Rattle.lists.specs.Bytes.{ended, join, close, led}
use Rattle.lists.proofs.Padding.{every-join}
use Rattle.decimal.specs.Decimal.{decimal}
use Rattle.decimal.proofs.Laws.{decimal-every}
use Rattle.program.specs.Names.{is_plain, is_name, from_word, to_word, ends_dated}
use Rattle.program.specs.Refusals.{lowest}
use Rattle.text.specs.Lines.{first_items, is_dated, names, clause_lines, row}
use Rattle.text.specs.Render.{book_items, book_text}
use Rattle.text.specs.Refusals.{wrong_size, unended, is_foreign, has_foreign, too_many_lines, names_broken, names_equal, is_row, clause_broken, only_zeros, days_reversed, refusal}
use Rattle.text.proofs.Lists.{every_all, every_map}
use Rattle.text.proofs.Values.{plain_line, value_short, day_short, row_parts}
use Rattle.text.proofs.Names.{name_parts, name_short}
use Rattle.text.proofs.Tests.{names_in}
use Rattle.text.proofs.Fits.{opened, clear}
use Rattle.text.proofs.Books.{items_named, items_some, text_of, lines_are, dated-again, names-again, rows-again}
use Rattle.text.proofs.Tables.{Good}

-- ---- 1: the size
-- pieces of at most k bytes each, a byte in front of each
led_short : (k : ℕ) (ps : List (List ℕ)) → every (λ p. leb (length p) k) ps ≡ true → length (led 32 ps) ≤ length ps + k * length ps
unfolding every led
led_short k [] h = omega arith
led_short k (p ∷ ps) h =
    let a = both_true (leb (length p) k) (every (λ p. leb (length p) k) ps) h in
    omega (arith, length-append p (led 32 ps), leb-true (length p) k a.0, led_short k ps a.1, mul-suc k (length ps))

led-append : (ps qs : List (List ℕ)) → led 32 (ps ++ qs) ≡ led 32 ps ++ led 32 qs
unfolding led
led-append [] qs = refl
led-append (p ∷ ps) qs = ap (λ (xs : List ℕ). 32 ∷ xs) (ap (λ (xs : List ℕ). p ++ xs) (led-append ps qs) ∙ sym (append_assoc p (led 32 ps) (led 32 qs)))

-- a line with the byte that ends it is as long as with a byte in front of each item
line-led : (ps : List (List ℕ)) → 1 ≤ length ps → length (join 32 ps) + 1 ≡ length (led 32 ps)
unfolding join led
line-led [] h = absurd (omega arith)
line-led (p ∷ ps) h = omega arith

decimals_short : (k m : ℕ) → ((v : ℕ) → v ≤ m → length (decimal v) ≤ k) → (vs : List ℕ) → every (λ v. leb v m) vs ≡ true → length (led 32 (map decimal vs)) ≤ length vs + k * length vs
decimals_short k m f vs h =
    let e = every_map decimal (λ v. leb v m) (λ p. leb (length p) k) (λ v t. le-leb (length (decimal v)) k (f v (leb-true v m t))) vs h in
    rw (length-map vs decimal) at (led_short k (map decimal vs) e)

-- three bytes for each value, six for each day
line_short : (dated : Bool) (n : ℕ) (vs : List ℕ) → 1 ≤ n → is_row dated n vs ≡ true → length (plain_line vs) + 1 ≤ 3 * n + 6 * cond dated 2 0
unfolding plain_line
line_short dated n vs l h =
    let t = row_parts dated n vs h in
    let m : length (map decimal vs) ≡ length vs = length-map vs decimal in
    let e : map decimal vs ≡ map decimal (take n vs) ++ map decimal (drop n vs) =
    ap (map decimal) (sym (take-append-drop n vs)) ∙ map-append decimal (take n vs) (drop n vs) in
    omega (
      arith,
      t.long,
      t.first_n,
      line-led (map decimal vs) (omega (arith, t.long)),
      ap (λ (is : List (List ℕ)). length (led 32 is)) e ∙ ap length (led-append (map decimal (take n vs)) (map decimal (drop n vs)))
          ∙ length-append (led 32 (map decimal (take n vs))) (led 32 (map decimal (drop n vs))),
      decimals_short 2 63 value_short (take n vs) t.values,
      decimals_short 5 65535 day_short (drop n vs) t.days,
      length-drop n vs,
    )

two_days : (dated : Bool) → cond dated 2 0 ≤ 2
two_days true = omega arith
two_days false = omega arith

lines_short : (dated : Bool) (n : ℕ) (vss : List (List ℕ)) → 1 ≤ n → n ≤ 12 → every (is_row dated n) vss ≡ true → length (close 10 (map plain_line vss)) ≤ 48 * length vss
unfolding every close
lines_short dated n [] l k h = omega arith
lines_short dated n (r ∷ vss) l k h =
    let a = both_true (is_row dated n r) (every (is_row dated n) vss) h in
    omega (arith, length-append (plain_line r) (10 ∷ close 10 (map plain_line vss)), line_short dated n r l a.0, two_days dated, lines_short dated n vss l k a.1)

-- nine bytes for each name, eight for " from to"
names_short : (dated : Bool) (ns : List (List ℕ)) → 1 ≤ length ns → every is_name ns ≡ true → length (join 32 (book_items dated ns)) + 1 ≤ 9 * length ns + 8
unfolding book_items led
names_short dated ns l h =
    let e = led_short 8 ns (every_mono is_name (λ p. leb (length p) 8) (λ x t. le-leb (length x) 8 (name_short x t)) ns h) in
    omega (arith, line-led (book_items dated ns) (items_some dated ns l), go dated e)
  where
    go : (d : Bool) → length (led 32 ns) ≤ length ns + 8 * length ns → length (led 32 (cond d (ns ++ from_word ∷ to_word ∷ []) ns)) ≤ 9 * length ns + 8
    go true e = omega (arith, ap length (led-append ns (from_word ∷ to_word ∷ [])), length-append (led 32 ns) (led 32 (from_word ∷ to_word ∷ [])))
    go false e = omega arith

module _ (dated : Bool) (ns vss : List (List ℕ)) (g : Good dated ns vss) where
  -- no more than 12 * 9 + 8 + 64 * 48 bytes
  pub text_short : length (book_text dated ns vss) ≤ 3188
  unfolding close
  text_short =
      let s = g.short in
      let f = g.few in
      omega (
        arith,
        ap length (text_of dated ns vss),
        length-append (join 32 (book_items dated ns)) (10 ∷ close 10 (map plain_line vss)),
        names_short dated ns g.any g.named,
        lines_short dated (length ns) vss g.any g.few g.ruled,
      )

  text_some : 1 ≤ length (book_text dated ns vss)
  unfolding close
  text_some = omega (arith, ap length (text_of dated ns vss), length-append (join 32 (book_items dated ns)) (10 ∷ close 10 (map plain_line vss)))

  test1 : wrong_size (book_text dated ns vss) ≡ false
  unfolding wrong_size
  test1 = rw (ne_eqb (length (book_text dated ns vss)) 0 (λ e. omega (arith, text_some)), le-ltb 4096 (length (book_text dated ns vss)) (omega (arith, text_short)))

-- ---- 2: the last byte
last-append : (xs ys : List ℕ) → 1 ≤ length ys → get_or (xs ++ ys) (length (xs ++ ys) - 1) 0 ≡ get_or ys (length ys - 1) 0
last-append xs ys h =
    let e : length (xs ++ ys) - 1 ≡ length xs + (length ys - 1) = omega (arith, length-append xs ys) in
    ap (λ (n : ℕ). get_or (xs ++ ys) n 0) e ∙ get_or-append-add xs ys (length ys - 1) 0

close_some : (p : List ℕ) (ps : List (List ℕ)) → 1 ≤ length (close 10 (p ∷ ps))
unfolding close
close_some p ps = omega (arith, length-append p (10 ∷ close 10 ps))

close_last : (p : List ℕ) (ps : List (List ℕ)) → get_or (close 10 (p ∷ ps)) (length (close 10 (p ∷ ps)) - 1) 0 ≡ 10
unfolding close
close_last p [] = last-append p (10 ∷ []) (omega arith)
close_last p (q ∷ qs) =
    last-append p (10 ∷ close 10 (q ∷ qs)) (omega arith)
    ∙ last-append (10 ∷ []) (close 10 (q ∷ qs)) (close_some q qs)
    ∙ close_last q qs

test2 : (dated : Bool) (ns vss : List (List ℕ)) → unended (book_text dated ns vss) ≡ false
unfolding unended
test2 dated ns vss = rw (eq-eqb _ 10 (ap (λ (t : List ℕ). get_or t (length t - 1) 0) (text_of dated ns vss) ∙ close_last (join 32 (book_items dated ns)) (map plain_line vss)))

-- ---- 3: every byte is the book's own
unfoldable own : ℕ → Bool
own x = not (is_foreign x)

plain_own : (x : ℕ) → is_plain x ≡ true → own x ≡ true
unfolding own is_foreign
plain_own x h = ap (λ (t : Bool). not (not (t || eqb x 32 || eqb x 10))) h

digit_own : (d : ℕ) → d < 10 → own (48 + d) ≡ true
digit_own d h = plain_own (48 + d) (rw (le-leb 48 (48 + d) (omega arith), le-leb (48 + d) 57 (omega arith), or-true))

none_foreign : (xs : List ℕ) → every own xs ≡ true → any_of is_foreign xs ≡ false
unfolding every any_of own
none_foreign [] h = refl
none_foreign (x ∷ xs) h = let a = both_true (not (is_foreign x)) (every own xs) h in rw (not-true (is_foreign x) a.0, none_foreign xs a.1)

decimals_own : (vs : List ℕ) → every (every own) (map decimal vs) ≡ true
decimals_own = every_all decimal (every own) (decimal-every own digit_own)

own_space : own 32 ≡ true
unfolding own is_foreign
own_space = refl

own_end : own 10 ≡ true
unfolding own is_foreign
own_end = refl

close_own : (vss : List (List ℕ)) → every own (close 10 (map plain_line vss)) ≡ true
unfolding every close plain_line
close_own [] = refl
close_own (r ∷ vss) =
    every_append own (join 32 (map decimal r)) (10 ∷ close 10 (map plain_line vss))
    (every-join own 32 own_space (map decimal r) (decimals_own r))
    (rw (own_end, close_own vss))

test3 : (dated : Bool) (ns vss : List (List ℕ)) → every is_name ns ≡ true → has_foreign (book_text dated ns vss) ≡ false
unfolding has_foreign close every
test3 dated ns vss h =
    let is = book_items dated ns in
    ap (any_of is_foreign) (text_of dated ns vss) ∙ none_foreign _ (every_append own (join 32 is) (10 ∷ close 10 (map plain_line vss))
    (every-join own 32 own_space is (every_mono is_name (every own) (λ x k. every_mono is_plain own plain_own x (name_parts x k).plain) is (items_named dated ns h)))
    (rw (own_end, close_own vss)))

-- the text of good names and rows is accepted
pub accept_text : (dated : Bool) (ns vss : List (List ℕ)) → Good dated ns vss → refusal (book_text dated ns vss) ≡ 0
unfolding refusal lowest too_many_lines names_broken names_equal clause_broken only_zeros days_reversed
accept_text dated ns vss g =
    let ls = lines_are dated ns vss g.named in
    let c : length (ended 10 (book_text dated ns vss)) ≤ 65 = omega (arith, ap length ls, length-map vss plain_line, g.short) in
    rw (
      test1 dated ns vss g,
      test2 dated ns vss,
      test3 dated ns vss g.named,
      le-ltb 65 (length (ended 10 (book_text dated ns vss))) c,
      names-again dated ns vss g.named g.any g.ending,
      dated-again dated ns vss g.named g.any g.ending,
      le-leb 1 (length ns) g.any,
      le-leb (length ns) 12 g.few,
      g.named,
      g.apart,
      rows-again dated ns vss g.named (length ns) g.any g.ruled,
      g.ruled,
      g.told,
      g.ordered,
    )

-- ---- an accepted text has good names and rows
tail_long : (ls : List (List ℕ)) → length ls ≤ 65 → length (tail ls) ≤ 64
tail_long [] h = omega arith
tail_long (l ∷ ls) h = omega arith

-- where the items do not end in "from to", neither do the names
names-ending : (is : List (List ℕ)) → ends_dated is || not (ends_dated (names_in is)) ≡ true
names-ending is = go (ends_dated is) refl
  where
    go : (d : Bool) → ends_dated is ≡ d → d || not (ends_dated (cond d (take (length is - 2) is) is)) ≡ true
    go true e = refl
    go false e = ap not e

pub good_read : (b : List ℕ) → refusal b ≡ 0 → Good (is_dated b) (names b) (map row (clause_lines b))
unfolding names is_dated clause_lines only_zeros days_reversed
good_read b h =
    let c = clear b h in
    let f = opened b c.opening in
    record {
      any = f.any;
      few = f.few;
      named = f.named;
      apart = f.apart;
      ending = names-ending (first_items b);
      short = omega (arith, length-map (tail (ended 10 b)) row, tail_long (ended 10 b) f.many);
      ruled = c.ruled;
      told = c.told;
      ordered = c.ordered;
    }
