-- Text to names and rows, and back. Assumes nothing.
use mathlib.Core.Path.{◌≡◌, refl, sym, ap, ap₂, ◌∙◌}
use mathlib.Core.Bool.{Bool, true, false, cond, not, ◌&&◌, ◌||◌}
use mathlib.Core.Logic.{⊎_elim}
use mathlib.Core.List.{List, [], ◌∷◌, ◌++◌, map, flat_map, tail, append_assoc}
use Prim.Native.Nat.{ℕ, suc, ◌+◌, ◌-◌, ◌≤◌}
use native.Mathlib.Omega.{arith}
use lib.Dec.{leb}
use lib.ListN.{length, get_or, take, drop, length-append, take-append-drop, drop_of_length-le}
use lib.Seq.{take_at, drop-cons, get_or-append-add}
use borrow.Author.Tests.{eqb-true, le-leb, not-true, not-false}
use Rattle.sets.specs.Lists.{every}
use Rattle.sets.proofs.Tests.{dec, both_true}
use Rattle.sets.proofs.Lists.{every_append, every_mono}
use Rattle.lists.specs.Bytes.{same, pieces, ended, join, close}
use Rattle.lists.proofs.Loops.{same_true, same_self}
use Rattle.lists.proofs.Pieces.{join-pieces, pieces-join, close-ended, ended-close}
use Rattle.lists.proofs.Padding.{isnt, all-free, every-join}
use Rattle.decimal.specs.Decimal.{decimal}
use Rattle.program.specs.Names.{is_name, from_word, to_word, ends_dated}
use Rattle.text.specs.Lines.{first_line, line_of, names_line, values_line, first_items, is_dated, names, clause_lines, value_of, row}
use Rattle.text.specs.Render.{book_items, book_text}
use Rattle.text.specs.Refusals.{wrong_size, unended, is_row, refusal}
use Rattle.text.proofs.Lists.{every_of_map, every_all, map_back}
use Rattle.text.proofs.Values.{row_parts, plain_line, items_are, line_back, numbers_back, decimals_isnt}
use Rattle.text.proofs.Names.{name_isnt}
use Rattle.text.proofs.Tests.{names_in, ends_long, size_some}
use Rattle.text.proofs.Fits.{opened, clear}

-- ---- the items of the names line
-- they are the names in them, and "from to" where they end so
pub ends_are : (is : List (List ℕ)) → ends_dated is ≡ true → take (length is - 2) is ++ from_word ∷ to_word ∷ [] ≡ is
unfolding ends_dated
ends_are is h =
    let k = length is - 2 in
    let a = both_true (leb 3 (length is) && same (get_or is k []) from_word) (same (get_or is (length is - 1) []) to_word) h in
    let f = same_true (get_or is k []) from_word (both_true (leb 3 (length is)) (same (get_or is k []) from_word) a.0).1 in
    let q : suc k ≡ length is - 1 = omega (arith, ends_long is h) in
    let t : get_or is (suc k) [] ≡ to_word = ap (λ (j : ℕ). get_or is j []) q ∙ same_true (get_or is (length is - 1) []) to_word a.1 in
    let d : drop k is ≡ from_word ∷ to_word ∷ [] =
    drop-cons is k [] (omega (arith, ends_long is h))
    ∙ ap₂ (λ (x : List ℕ) (xs : List (List ℕ)). x ∷ xs) f
    (drop-cons is (suc k) [] (omega (arith, ends_long is h)) ∙ ap₂ (λ (x : List ℕ) (xs : List (List ℕ)). x ∷ xs) t (drop_of_length-le is {i = suc (suc k)} (omega arith))) in
    ap (λ (xs : List (List ℕ)). take k is ++ xs) (sym d) ∙ take-append-drop k is

pub items_back : (is : List (List ℕ)) → book_items (ends_dated is) (names_in is) ≡ is
unfolding book_items
items_back is = ⊎_elim (λ t. rw t (ends_are is t)) (λ t. rw t) (dec (ends_dated is))

-- names with "from to" behind them end so, and are the names in them
last_two : (ns : List (List ℕ)) → 1 ≤ length ns → ends_dated (ns ++ from_word ∷ to_word ∷ []) ≡ true
unfolding ends_dated
last_two ns h =
    let is = ns ++ from_word ∷ to_word ∷ [] in
    let l : length is ≡ length ns + 2 = length-append ns (from_word ∷ to_word ∷ []) in
    let a : length is - 2 ≡ length ns + 0 = omega arith in
    let c : length is - 1 ≡ length ns + 1 = omega arith in
    rw (le-leb 3 (length is) (omega arith), a, c, get_or-append-add ns (from_word ∷ to_word ∷ []) 0 [], get_or-append-add ns (from_word ∷ to_word ∷ []) 1 [])
    (rw (same_self from_word, same_self to_word))

-- the names in the items of a book are its names, and it is dated where it was; where it was not, its names do not end in "from to"
module _ (dated : Bool) (ns : List (List ℕ)) (any : 1 ≤ length ns) (ending : dated || not (ends_dated ns) ≡ true) where
  pub ends-again : ends_dated (book_items dated ns) ≡ dated
  unfolding book_items
  ends-again = go dated ending
    where
      go : (d : Bool) → d || not (ends_dated ns) ≡ true → ends_dated (cond d (ns ++ from_word ∷ to_word ∷ []) ns) ≡ d
      go true e = last_two ns any
      go false e = not-true (ends_dated ns) e

  pub names_in_again : names_in (book_items dated ns) ≡ ns
  unfolding book_items
  names_in_again = ap (λ (d : Bool). cond d (take (length (book_items dated ns) - 2) (book_items dated ns)) (book_items dated ns)) ends-again ∙ go dated
    where
      go : (d : Bool) → cond d (take (length (cond d (ns ++ from_word ∷ to_word ∷ []) ns) - 2) (cond d (ns ++ from_word ∷ to_word ∷ []) ns)) (cond d (ns ++ from_word ∷ to_word ∷ []) ns) ≡ ns
      go true = take_at ns (from_word ∷ to_word ∷ []) (length (ns ++ from_word ∷ to_word ∷ []) - 2) (omega (arith, length-append ns (from_word ∷ to_word ∷ [])))
      go false = refl

-- all of them are names
pub items_named : (dated : Bool) (ns : List (List ℕ)) → every is_name ns ≡ true → every is_name (book_items dated ns) ≡ true
unfolding book_items is_name every
items_named true ns h = every_append is_name ns (from_word ∷ to_word ∷ []) h refl
items_named false ns h = h

pub items_some : (dated : Bool) (ns : List (List ℕ)) → 1 ≤ length ns → 1 ≤ length (book_items dated ns)
unfolding book_items
items_some true ns h = omega (arith, length-append ns (from_word ∷ to_word ∷ []))
items_some false ns h = h

-- ---- the text by its lines, each without the byte that ends it
lines_of : (vss : List (List ℕ)) → flat_map values_line vss ≡ close 10 (map plain_line vss)
unfolding flat_map close values_line line_of plain_line
lines_of [] = refl
lines_of (vs ∷ vss) =
    ap (λ (l : List ℕ). (join 32 (map decimal vs) ++ (10 ∷ [])) ++ l) (lines_of vss)
    ∙ append_assoc (join 32 (map decimal vs)) (10 ∷ []) (close 10 (map plain_line vss))

pub text_of : (dated : Bool) (ns vss : List (List ℕ)) → book_text dated ns vss ≡ close 10 (join 32 (book_items dated ns) ∷ map plain_line vss)
unfolding book_text names_line line_of close
text_of dated ns vss =
    let is = book_items dated ns in
    ap (λ (l : List ℕ). (join 32 is ++ (10 ∷ [])) ++ l) (lines_of vss)
    ∙ append_assoc (join 32 is) (10 ∷ []) (close 10 (map plain_line vss))

-- ---- an accepted text is the text of its names and rows
lines_back : (dated : Bool) (n : ℕ) (ls : List (List ℕ)) → every (is_row dated n) (map row ls) ≡ true → map plain_line (map row ls) ≡ ls
lines_back dated n ls h = map_back row (λ l. is_row dated n (row l)) plain_line (line_back dated n) ls (sym (every_of_map row (is_row dated n) ls) ∙ h)

-- a text that is not empty and ends in 10 is its lines
lines_whole : (b : List ℕ) → wrong_size b ≡ false → unended b ≡ false → close 10 (ended 10 b) ≡ b
unfolding unended
lines_whole [] s e = absurd (omega (arith, size_some [] s))
lines_whole (x ∷ xs) s e =
    let q : suc (length xs) - 1 ≡ length xs = omega arith in
    close-ended 10 x xs (ap (λ (k : ℕ). get_or (x ∷ xs) k 0) (sym q) ∙ eqb-true _ _ (not-false _ e))

some_line : (b : List ℕ) (ls : List (List ℕ)) → wrong_size b ≡ false → close 10 ls ≡ b → 1 ≤ length ls
unfolding close
some_line b [] s e = absurd (omega (arith, size_some b s, ap length e))
some_line b (l ∷ ls) s e = omega arith

first_and_rest : (ls : List (List ℕ)) → 1 ≤ length ls → ls ≡ first_line ls ∷ tail ls
first_and_rest [] h = absurd (omega arith)
first_and_rest (l ∷ ls) h = refl

pub text_back : (b : List ℕ) → refusal b ≡ 0 → book_text (is_dated b) (names b) (map row (clause_lines b)) ≡ b
unfolding names is_dated first_items clause_lines
text_back b h =
    let c = clear b h in
    let t = opened b c.opening in
    let w = lines_whole b t.sized t.closed in
    let f = first_and_rest (ended 10 b) (some_line b (ended 10 b) t.sized w) in
    text_of (is_dated b) (names b) (map row (clause_lines b))
    ∙ ap₂ (λ (x : List ℕ) (xs : List (List ℕ)). close 10 (x ∷ xs))
    (ap (join 32) (items_back (first_items b)) ∙ join-pieces 32 (first_line (ended 10 b))) (lines_back (is_dated b) (length (names b)) (tail (ended 10 b)) c.ruled)
    ∙ ap (close 10) (sym f) ∙ w

-- ---- the text of names and rows gives those again
module _ (dated : Bool) (n : ℕ) (l : 1 ≤ n) where
  row-items : (vs : List ℕ) → is_row dated n vs ≡ true → pieces 32 (plain_line vs) ≡ map decimal vs
  row-items [] h = absurd (omega (arith, (row_parts dated n [] h).long))
  row-items (v ∷ vs) h = items_are v vs

  row_back : (vs : List ℕ) → is_row dated n vs ≡ true → row (plain_line vs) ≡ vs
  unfolding row
  row_back vs h = ap (map value_of) (row-items vs h) ∙ numbers_back vs (row_parts dated n vs h).small

  rows_back : (vss : List (List ℕ)) → every (is_row dated n) vss ≡ true → map row (map plain_line vss) ≡ vss
  rows_back = map_back plain_line (is_row dated n) row row_back

plain_isnt : (vss : List (List ℕ)) → every (every (isnt 10)) (map plain_line vss) ≡ true
unfolding plain_line
plain_isnt = every_all plain_line (every (isnt 10)) (λ r. every-join (isnt 10) 32 refl (map decimal r) (decimals_isnt 10 (omega arith) r))

-- the items of a line of names
split_names : (is : List (List ℕ)) → 1 ≤ length is → every is_name is ≡ true → pieces 32 (join 32 is) ≡ is
split_names [] l h = absurd (omega arith)
split_names (n ∷ ns) l h = pieces-join 32 n ns (all-free 32 (n ∷ ns) (every_mono is_name (every (isnt 32)) (name_isnt 32 (omega arith)) (n ∷ ns) h))

module _ (dated : Bool) (ns vss : List (List ℕ)) (named : every is_name ns ≡ true) where
  -- the lines of the text
  pub lines_are : ended 10 (book_text dated ns vss) ≡ join 32 (book_items dated ns) ∷ map plain_line vss
  unfolding every
  lines_are =
      let is = book_items dated ns in
      ap (ended 10) (text_of dated ns vss) ∙ ended-close 10 (join 32 is ∷ map plain_line vss) (all-free 10 (join 32 is ∷ map plain_line vss)
      (rw (every-join (isnt 10) 32 refl is (every_mono is_name (every (isnt 10)) (name_isnt 10 (omega arith)) is (items_named dated ns named)), plain_isnt vss)))

  pub rows-again : (n : ℕ) → 1 ≤ n → every (is_row dated n) vss ≡ true → map row (clause_lines (book_text dated ns vss)) ≡ vss
  unfolding clause_lines
  rows-again n l k = ap (λ (ls : List (List ℕ)). map row (tail ls)) lines_are ∙ rows_back dated n l vss k

  module _ (any : 1 ≤ length ns) (ending : dated || not (ends_dated ns) ≡ true) where
    items-again : first_items (book_text dated ns vss) ≡ book_items dated ns
    unfolding first_items
    items-again = ap (λ (l : List (List ℕ)). pieces 32 (first_line l)) lines_are ∙ split_names (book_items dated ns) (items_some dated ns any) (items_named dated ns named)

    pub dated-again : is_dated (book_text dated ns vss) ≡ dated
    unfolding is_dated
    dated-again = ap ends_dated items-again ∙ ends-again dated ns any ending

    pub names-again : names (book_text dated ns vss) ≡ ns
    unfolding names is_dated
    names-again = ap names_in items-again ∙ names_in_again dated ns any ending
