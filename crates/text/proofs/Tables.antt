-- Tables to names and rows, rows to the numbers of lines, and back. Assumes nothing.
use mathlib.Core.Path.{◌≡◌, refl, sym, ap, ap₂, ◌∙◌}
use mathlib.Core.Bool.{Bool, true, false, cond, not, ◌&&◌, ◌||◌, and-false}
use mathlib.Core.Logic.{⊎_elim}
use mathlib.Core.List.{List, [], ◌∷◌, ◌++◌, map, flat_map, append_assoc}
use Prim.Native.Nat.{ℕ, zero, suc, ◌+◌, ◌-◌, ◌*◌, ◌/◌, ◌%◌, ◌^◌, ◌≤◌, ◌<◌}
use native.Mathlib.Nat.{add-zero, zero-add, zero-div, div-div-eq-div-mul, pow-suc}
use native.Mathlib.Omega.{arith}
use lib.Dec.{eqb, leb, ltb}
use lib.ListN.{length, get_or, take, drop, replicate, length-map, length-append, length-drop, take-append-drop, drop_of_length-le, get_or-map, get_or-eq_default}
use lib.Seq.{take_at, drop_at, take-add, drop-drop, drop-cons, get_or-drop, get_or-append-add}
use borrow.Author.Tests.{eqb-true, eq-eqb, ltb-true, ltb-false, lt-ltb, le-ltb, leb-true, le-leb}
use Rattle.sets.specs.Lists.{◌∈◌, Each, every, any_of, up_from, tabulate}
use Rattle.sets.proofs.Tests.{dec, clash, both_true, and_is_true}
use Rattle.sets.proofs.Lists.{length-up_from, map-up_from, up_from_ext, up_from_in, length-tabulate, every_each, each_every, none_each, map_in, in_at}
use Rattle.lists.specs.Bytes.{index, distinct, padded}
use Rattle.lists.proofs.Pieces.{index_le}
use Rattle.lists.proofs.Padding.{padded_long, padded_at, padded_back, padded_tail, zeros_are}
use Rattle.program.specs.declared.Program.{Program}
use Rattle.program.specs.Clauses.{Clause, Row, row_at, rows}
use Rattle.program.specs.Held.{holding, released}
use Rattle.program.specs.Names.{is_name, place, name_at, names_of, ends_dated}
use Rattle.program.specs.Only.{with_rows}
use Rattle.program.specs.Values.{is_word, value_in, word_of, bits_of, word_by, clause_of_values, clause_value, clause_values}
use Rattle.program.specs.Valid.{zero_from, is_place, names_valid, is_clause, days_fit, valid, Sized}
use Rattle.program.proofs.Places.{place_long}
use Rattle.program.proofs.Values.{value_lt}
use Rattle.program.proofs.Days.{length_rows}
use Rattle.program.proofs.Validity.{valid_names, valid_clauses, valid_days, clause_below, DaysParts, days_parts, days_fit_lem}
use Rattle.program.proofs.Chosen.{up_is, rows_are, rows_valid, row_clause, row_days}
use Rattle.text.specs.Tables.{placed, table_of}
use Rattle.text.specs.Refusals.{is_value, is_day, is_row}
use Rattle.text.specs.Render.{row_numbers, numbers_of}
use Rattle.text.specs.Reading.{row_of_numbers}
use Rattle.text.proofs.Lists.{every_of_map, every_all, every_map, none-map, map_back, distinct-map}
use Rattle.text.proofs.Values.{RowParts, row_parts}
use Rattle.text.proofs.Names.{name_short, placed_long, index_name, trim}

-- the numbers of a line with a first day after its last
abbrev pub reversed : ℕ → List ℕ → Bool
reversed n vs = ltb (get_or vs (n + 1) 0) (get_or vs n 0)

-- names and rows as a book has them
pub record Good (dated : Bool) (ns vss : List (List ℕ)) : Type 0 where
  pub any : 1 ≤ length ns
  pub few : length ns ≤ 12
  pub named : every is_name ns ≡ true
  pub apart : distinct ns ≡ true
  pub ending : dated || not (ends_dated ns) ≡ true
  pub short : length vss ≤ 64
  pub ruled : every (is_row dated (length ns)) vss ≡ true
  pub told : any_of (λ vs. every (eqb 0) (take (length ns) vs)) vss ≡ false
  pub ordered : dated && any_of (reversed (length ns)) vss ≡ false

-- ---- the names of a table
names_up : (Y zs : List ℕ) (ns : List (List ℕ)) (i : ℕ) → every is_name ns ≡ true → drop (8 * i) Y ≡ placed ns ++ zs → up_from (place Y) (length ns) i ≡ map (padded 8) ns
unfolding up_from every placed flat_map place
names_up Y zs [] i h e = refl
names_up Y zs (x ∷ ns) i h e =
    let a = both_true (is_name x) (every is_name ns) h in
    let P = padded 8 x in
    let F = placed ns in
    let l : length P ≡ 8 = padded_long 8 x (name_short x a.0) in
    let e' : drop (8 * i) Y ≡ P ++ (F ++ zs) = e ∙ append_assoc P F zs in
    let q : 8 * i + 8 ≡ 8 * suc i = omega arith in
    let d : drop (8 * suc i) Y ≡ F ++ zs = ap (λ (n : ℕ). drop n Y) (sym q) ∙ sym (drop-drop 8 (8 * i) Y) ∙ ap (drop 8) e' ∙ drop_at P (F ++ zs) 8 l in
    ap₂ (λ (y : List ℕ) (ys : List (List ℕ)). y ∷ ys) (ap (take 8) e' ∙ take_at P (F ++ zs) 8 l) (names_up Y zs ns (suc i) a.1 d)

abbrev named : List ℕ → List ℕ
named P = take (index 0 P) P

-- the places of a table of names, and the names in them
places_of : (ns : List (List ℕ)) → every is_name ns ≡ true → tabulate (place (padded 96 (placed ns))) (length ns) ≡ map (padded 8) ns
unfolding padded tabulate
places_of ns h = names_up _ (replicate (96 - length (placed ns)) 0) ns 0 h refl

trims : (ns : List (List ℕ)) → every is_name ns ≡ true → map named (map (padded 8) ns) ≡ ns
trims = map_back (padded 8) is_name named trim

names_are_named : (Y : List ℕ) (k i : ℕ) → up_from (name_at Y) k i ≡ map named (up_from (place Y) k i)
unfolding name_at
names_are_named Y k i = sym (map-up_from named (place Y) k i)

names_there : (ns : List (List ℕ)) → every is_name ns ≡ true → tabulate (name_at (padded 96 (placed ns))) (length ns) ≡ ns
unfolding tabulate
names_there ns h = names_are_named (padded 96 (placed ns)) (length ns) 0 ∙ ap (map named) (places_of ns h) ∙ trims ns h

pub names_of_table : (dated : Bool) (ns : List (List ℕ)) (R : List Row) → every is_name ns ≡ true → names_of (table_of dated ns R) ≡ ns
unfolding names_of table_of
names_of_table dated ns R h = names_there ns h

-- ---- the values of a clause that is made of values
bits_suc : (w i : ℕ) → value_in w (suc i) ≡ value_in (w / 4) i
unfolding value_in
bits_suc w i =
    let q : 2 * suc i ≡ suc (suc (2 * i)) = omega arith in
    let p : 2 ^ (2 * suc i) ≡ 4 * 2 ^ (2 * i) = ap (λ (n : ℕ). 2 ^ n) q ∙ omega (arith, pow-suc 2 (suc (2 * i)), pow-suc 2 (2 * i)) in
    ap (λ (n : ℕ). w / n % 4) p ∙ ap (λ (n : ℕ). n % 4) (sym (div-div-eq-div-mul w 4 (2 ^ (2 * i))))

word_in : (ds : List ℕ) (i : ℕ) → every (λ d. ltb d 4) ds ≡ true → value_in (word_of ds) i ≡ get_or ds i 0
unfolding word_of every value_in
word_in [] i h = ap (λ (n : ℕ). n % 4) (zero-div (2 ^ (2 * i)))
word_in (d ∷ ds) zero h = let a = both_true (ltb d 4) (every (λ e. ltb e 4) ds) h in omega (arith, ltb-true d 4 a.0)
word_in (d ∷ ds) (suc i) h =
    let a = both_true (ltb d 4) (every (λ e. ltb e 4) ds) h in
    let q : (d + 4 * word_of ds) / 4 ≡ word_of ds = omega (arith, ltb-true d 4 a.0) in
    bits_suc (d + 4 * word_of ds) i ∙ ap (λ (w : ℕ). value_in w i) q ∙ word_in ds i a.1

small_bits : (k : ℕ) (vs : List ℕ) → every (λ d. ltb d 4) (map (bits_of k) vs) ≡ true
unfolding bits_of
small_bits k = every_all (bits_of k) (λ d. ltb d 4) (λ v. lt-ltb (v / k % 4) 4 (omega arith))

word_at : (k : ℕ) (vs : List ℕ) (i : ℕ) → bits_of k 0 ≡ 0 → value_in (word_by k vs) i ≡ bits_of k (get_or vs i 0)
unfolding word_by
word_at k vs i z =
    word_in (map (bits_of k) vs) i (small_bits k vs)
    ∙ ap (get_or (map (bits_of k) vs) i) (sym z) ∙ get_or-map (bits_of k) vs i 0

small_at : (m : ℕ) (vs : List ℕ) (i : ℕ) → every (λ v. leb v m) vs ≡ true → get_or vs i 0 ≤ m
unfolding every
small_at m [] i h = omega arith
small_at m (v ∷ vs) zero h = leb-true v m (both_true (leb v m) (every (λ v. leb v m) vs) h).0
small_at m (v ∷ vs) (suc i) h = small_at m vs i (both_true (leb v m) (every (λ v. leb v m) vs) h).1

value_is : (vs : List ℕ) (i : ℕ) → every is_value vs ≡ true → clause_value (clause_of_values vs) i ≡ get_or vs i 0
unfolding clause_of_values clause_value bits_of
value_is vs i h = omega (arith, word_at 1 vs i refl, word_at 4 vs i refl, word_at 16 vs i refl, small_at 63 vs i h)

values_of : (vs : List ℕ) → every is_value vs ≡ true → clause_values (length vs) (clause_of_values vs) ≡ vs
unfolding clause_values tabulate
values_of vs h = up_is (clause_value (clause_of_values vs)) 0 vs 0 (λ j m. ap (clause_value (clause_of_values vs)) (zero-add j) ∙ value_is vs j h)

-- behind the values of a line stand its two days, or nothing
days_behind : (dated : Bool) (n : ℕ) (vs : List ℕ) → length vs ≡ n + cond dated 2 0 → cond dated (get_or vs n 0 ∷ get_or vs (n + 1) 0 ∷ []) [] ≡ drop n vs
days_behind true n vs l =
    let q : suc n ≡ n + 1 = omega arith in
    let e : drop (suc (suc n)) vs ≡ [] = drop_of_length-le vs {i = suc (suc n)} (omega arith) in
    sym (drop-cons vs n 0 (omega arith)
    ∙ ap (λ (xs : List ℕ). get_or vs n 0 ∷ xs) (drop-cons vs (suc n) 0 (omega arith) ∙ ap₂ (λ (x : ℕ) (xs : List ℕ). x ∷ xs) (ap (λ (j : ℕ). get_or vs j 0) q) e))
days_behind false n vs l = sym (drop_of_length-le vs {i = n} (omega arith))

-- the numbers of a row that is made of numbers
module _ (dated : Bool) (n : ℕ) where
  numbers_are : (vs : List ℕ) → is_row dated n vs ≡ true → row_numbers dated n (row_of_numbers n vs) ≡ vs
  unfolding row_numbers row_of_numbers
  numbers_are vs h =
      let t = row_parts dated n vs h in
      ap₂ ◌++◌ (ap (λ (m : ℕ). clause_values m (clause_of_values (take n vs))) (sym t.first_n) ∙ values_of (take n vs) t.values) (days_behind dated n vs t.long)
      ∙ take-append-drop n vs

  pub all_numbers : (vss : List (List ℕ)) → every (is_row dated n) vss ≡ true → map (row_numbers dated n) (map (row_of_numbers n) vss) ≡ vss
  all_numbers = map_back (row_of_numbers n) (is_row dated n) (row_numbers dated n) numbers_are

-- ---- the rows of a table
-- the table of names and rows is the one without rows, with these
with_rows_lem : (dated : Bool) (ns : List (List ℕ)) (R : List Row) → table_of dated ns R ≡ with_rows (table_of dated ns []) R
unfolding table_of with_rows
with_rows_lem dated ns R = refl

pub rows_of_table : (dated : Bool) (ns : List (List ℕ)) (R : List Row) → rows (table_of dated ns R) ≡ R
rows_of_table dated ns R = ap rows (with_rows_lem dated ns R) ∙ rows_are (table_of dated ns []) R

pub numbers_of_table : (dated : Bool) (ns vss : List (List ℕ)) → every (is_row dated (length ns)) vss ≡ true → numbers_of (table_of dated ns (map (row_of_numbers (length ns)) vss)) ≡ vss
unfolding numbers_of table_of
numbers_of_table dated ns vss h = ap (map (row_numbers dated (length ns))) (rows_of_table dated ns (map (row_of_numbers (length ns)) vss)) ∙ all_numbers dated (length ns) vss h

-- ---- a valid table is the table of its names and rows
place_back : (P : List ℕ) → length P ≡ 8 → is_place P ≡ true → padded 8 (named P) ≡ P
unfolding is_place zero_from
place_back P l h =
    padded_back 8 (index 0 P) P l (omega (arith, index_le 0 P)) (both_true (is_name (named P)) (every (eqb 0) (drop (index 0 P) P)) h).1

place_named : (P : List ℕ) → is_place P ≡ true → is_name (named P) ≡ true
unfolding is_place zero_from
place_named P h = (both_true (is_name (named P)) (every (eqb 0) (drop (index 0 P) P)) h).0

places_back : (Y : List ℕ) (k i : ℕ) → 8 * (i + k) ≤ length Y → every is_place (up_from (place Y) k i) ≡ true
    → placed (map named (up_from (place Y) k i)) ≡ take (8 * k) (drop (8 * i) Y)
unfolding up_from every placed flat_map place
places_back Y zero i h v = refl
places_back Y (suc k) i h v =
    let P = take 8 (drop (8 * i) Y) in
    let a = both_true (is_place P) (every is_place (up_from (place Y) k (suc i))) v in
    let l : length P ≡ 8 = place_long Y i (omega arith) in
    let q : 8 * suc k ≡ 8 + 8 * k = omega arith in
    let r : 8 * i + 8 ≡ 8 * suc i = omega arith in
    ap₂ ◌++◌ (place_back P l a.0) (places_back Y k (suc i) (omega arith) a.1)
    ∙ ap (λ (n : ℕ). P ++ take (8 * k) (drop n Y)) (sym r) ∙ ap (λ (ys : List ℕ). P ++ take (8 * k) ys) (sym (drop-drop 8 (8 * i) Y))
    ∙ sym (take-add 8 (8 * k) (drop (8 * i) Y)) ∙ ap (λ (n : ℕ). take n (drop (8 * i) Y)) (sym q)

up_ext : (f g : ℕ → ℕ) (k i j : ℕ) → ((t : ℕ) → f (i + t) ≡ g (j + t)) → up_from f k i ≡ up_from g k j
unfolding up_from
up_ext f g zero i j h = refl
up_ext f g (suc k) i j h = ap₂ (λ (x : ℕ) (xs : List ℕ). x ∷ xs) (ap f (sym (add-zero i)) ∙ h 0 ∙ ap g (add-zero j))
    (up_ext f g k (suc i) (suc j) (λ t. let p : suc i + t ≡ i + suc t = omega arith in let q : j + suc t ≡ suc j + t = omega arith in ap f p ∙ h (suc t) ∙ ap g q))

word_back : (k w : ℕ) → w < 2 ^ (2 * k) → word_of (up_from (value_in w) k 0) ≡ w
unfolding up_from word_of value_in
word_back zero w h = omega arith
word_back (suc k) w h =
    let q : 2 * suc k ≡ suc (suc (2 * k)) = omega arith in
    let p : 2 ^ (2 * suc k) ≡ 4 * 2 ^ (2 * k) = ap (λ (n : ℕ). 2 ^ n) q ∙ omega (arith, pow-suc 2 (suc (2 * k)), pow-suc 2 (2 * k)) in
    let e : up_from (value_in w) k 1 ≡ up_from (value_in (w / 4)) k 0 = up_ext (value_in w) (value_in (w / 4)) k 1 0
    (λ t. let s : 1 + t ≡ suc t = omega arith in ap (value_in w) s ∙ bits_suc w t ∙ ap (value_in (w / 4)) (sym (zero-add t))) in
    let r : word_of (up_from (value_in w) k 1) ≡ w / 4 = ap word_of e ∙ word_back k (w / 4) (omega arith) in
    omega arith

module _ (n : ℕ) (c : Clause) where
  part_back : (k w : ℕ) → ((t : ℕ) → bits_of k (clause_value c t) ≡ value_in w t) → w < 2 ^ (2 * n) → word_by k (clause_values n c) ≡ w
  unfolding clause_values tabulate word_by
  part_back k w h l =
      ap word_of (map-up_from (bits_of k) (clause_value c) n 0
      ∙ up_ext (λ (t : ℕ). bits_of k (clause_value c t)) (value_in w) n 0 0 (λ t. h (0 + t))) ∙ word_back n w l

  pub head_back : c.head < 2 ^ (2 * n) → word_by 1 (clause_values n c) ≡ c.head
  unfolding clause_value bits_of
  head_back = part_back 1 c.head (λ t. omega (arith, value_lt c.head t))

  pub body_back : c.body < 2 ^ (2 * n) → word_by 4 (clause_values n c) ≡ c.body
  unfolding clause_value bits_of
  body_back = part_back 4 c.body (λ t. omega (arith, value_lt c.head t, value_lt c.body t))

  pub naf_back : c.naf < 2 ^ (2 * n) → word_by 16 (clause_values n c) ≡ c.naf
  unfolding clause_value bits_of
  naf_back = part_back 16 c.naf (λ t. omega (arith, value_lt c.head t, value_lt c.body t, value_lt c.naf t))

  -- a clause over n names is the clause with its values
  clause_back : is_clause n c ≡ true → clause_of_values (clause_values n c) ≡ c
  unfolding clause_of_values
  clause_back h = let s = clause_below n c h in rw (head_back s.heads, body_back s.bodies, naf_back s.nafs)

-- a row that a table for n names may have
abbrev fitting : Bool → ℕ → Row → Bool
fitting dated n r = is_clause n r.clause && days_fit dated r.first r.last && is_day r.last

record FittingParts (dated : Bool) (n : ℕ) (r : Row) : Type 0 where
  pub clause : is_clause n r.clause ≡ true
  pub days : DaysParts dated r.first r.last
  pub small : r.last ≤ 65535

fitting_parts : (dated : Bool) (n : ℕ) (r : Row) → fitting dated n r ≡ true → FittingParts dated n r
fitting_parts dated n r h =
    let a = both_true (is_clause n r.clause && days_fit dated r.first r.last) (is_day r.last) h in
    let b = both_true (is_clause n r.clause) (days_fit dated r.first r.last) a.0 in
    record { clause = b.0; days = days_parts dated r.first r.last b.1; small = leb-true r.last 65535 a.1 }

values_long : (n : ℕ) (c : Clause) → length (clause_values n c) ≡ n
unfolding clause_values tabulate
values_long n c = length-up_from (clause_value c) n 0

-- the days on the line of a row
abbrev days_of : Bool → Row → List ℕ
days_of dated r = cond dated (r.first ∷ r.last ∷ []) []

days_long : (dated : Bool) (r : Row) → length (days_of dated r) ≡ cond dated 2 0
days_long true r = refl
days_long false r = refl

-- the numbers of a row: its values, and the days behind them
module _ (dated : Bool) (n : ℕ) (r : Row) where
  first_numbers : take n (row_numbers dated n r) ≡ clause_values n r.clause
  unfolding row_numbers
  first_numbers = take_at (clause_values n r.clause) (days_of dated r) n (values_long n r.clause)

  last_numbers : drop n (row_numbers dated n r) ≡ days_of dated r
  unfolding row_numbers
  last_numbers = drop_at (clause_values n r.clause) (days_of dated r) n (values_long n r.clause)

  numbers_long : length (row_numbers dated n r) ≡ n + cond dated 2 0
  unfolding row_numbers
  numbers_long = omega (arith, length-append (clause_values n r.clause) (days_of dated r), values_long n r.clause, days_long dated r)

  number_at : (k j : ℕ) → k ≡ n + j → get_or (row_numbers dated n r) k 0 ≡ get_or (days_of dated r) j 0
  unfolding row_numbers
  number_at k j e =
      let vs = clause_values n r.clause in
      let q : k ≡ length vs + j = omega (arith, values_long n r.clause) in
      ap (λ (i : ℕ). get_or (vs ++ days_of dated r) i 0) q ∙ get_or-append-add vs (days_of dated r) j 0

-- the days of a row that fits are read back, 0 where there are none
day_one : (dated : Bool) (r : Row) → DaysParts dated r.first r.last → get_or (days_of dated r) 0 0 ≡ r.first
day_one true r t = refl
day_one false r t = sym (t.none refl).0

day_two : (dated : Bool) (r : Row) → DaysParts dated r.first r.last → get_or (days_of dated r) 1 0 ≡ r.last
day_two true r t = refl
day_two false r t = sym (t.none refl).1

row-again : (dated : Bool) (n : ℕ) (r : Row) → fitting dated n r ≡ true → row_of_numbers n (row_numbers dated n r) ≡ r
unfolding row_of_numbers
row-again dated n r h =
    let t = fitting_parts dated n r h in
    rw (
      first_numbers dated n r,
      clause_back n r.clause t.clause,
      number_at dated n r n 0 (omega arith) ∙ day_one dated r t.days,
      number_at dated n r (n + 1) 1 refl ∙ day_two dated r t.days,
    )

up_take : (H : List ℕ) (m i : ℕ) → i + m ≤ length H → up_from (λ j. get_or H j 0) m i ≡ take m (drop i H)
unfolding up_from
up_take H zero i h = refl
up_take H (suc m) i h =
    ap (λ (xs : List ℕ). get_or H i 0 ∷ xs) (up_take H m (suc i) (omega arith)) ∙ ap (take (suc m)) (sym (drop-cons H i 0 (omega arith)))

-- zeros from m on
zeros_from : (H : List ℕ) (m : ℕ) → ((j : ℕ) → m ≤ j → j < length H → get_or H j 0 ≡ 0) → zero_from m H ≡ true
unfolding zero_from
zeros_from H m h = each_every (eqb 0) (drop m H) (λ x i.
    let s = in_at (drop m H) 0 x i in
    eq-eqb 0 x (sym (sym s.2 ∙ get_or-drop m H s.0 0 ∙ h (m + s.0) (omega arith) (omega (arith, s.1, length-drop m H)))))

pub names_long : (p : Program) → length (names_of p) ≡ p.atom_count
unfolding names_of
names_long p = length-tabulate (name_at p.atom_names) p.atom_count

module _ (p : Program) (s : Sized p) (v : valid p ≡ true) where
  names_column : padded 96 (placed (names_of p)) ≡ p.atom_names
  unfolding names_of tabulate zero_from
  names_column =
      let t = valid_names p v in
      let n = p.atom_count in
      let Y = p.atom_names in
      ap (λ (l : List (List ℕ)). padded 96 (placed l)) (names_are_named Y n 0)
      ∙ ap (padded 96) (places_back Y n 0 (omega (arith, t.few, s.names)) t.named)
      ∙ padded_back 96 (8 * n) Y s.names (omega (arith, t.few)) t.blank

  -- a column with zeros behind the rows is theirs, padded
  column_is : (H : List ℕ) (f : Row → ℕ) → ((j : ℕ) → f (row_at p j) ≡ get_or H j 0) → length H ≡ 64 → zero_from p.clause_count H ≡ true → padded 64 (map f (rows p)) ≡ H
  unfolding rows tabulate zero_from
  column_is H f e l z =
      let m = p.clause_count in
      let b = (valid_clauses p v).short in
      ap (padded 64) (map-up_from f (row_at p) m 0 ∙ up_from_ext (λ j. f (row_at p j)) (λ j. get_or H j 0) m 0 (λ j h. e j) ∙ up_take H m 0 (omega arith))
      ∙ padded_back 64 m H l b z

  -- no days behind the rows
  no_days : (k : ℕ) → p.clause_count ≤ k → k < 64 → (get_or p.firsts k 0 ≡ 0) × (get_or p.lasts k 0 ≡ 0)
  no_days k h l = (days_parts _ (get_or p.firsts k 0) (get_or p.lasts k 0) (valid_days p v k l)).none (rw (le-ltb k p.clause_count h, and-false))

  -- the table of its names and rows is the table with nothing held
  pub table_back : table_of p.dated (names_of p) (rows p) ≡ released p
  unfolding table_of released holding
  table_back =
      let t = valid_clauses p v in
      let e1 : length (names_of p) ≡ p.atom_count = names_long p in
      let e2 : length (rows p) ≡ p.clause_count = length_rows p in
      rw (
        e1,
        names_column,
        e2,
        column_is p.heads (λ r. r.clause.head) (λ j. refl) s.heads t.no_heads,
        column_is p.bodies (λ r. r.clause.body) (λ j. refl) s.bodies t.no_bodies,
        column_is p.nafs (λ r. r.clause.naf) (λ j. refl) s.nafs t.no_nafs,
        column_is p.firsts (λ r. r.first) (λ j. refl) s.firsts (zeros_from p.firsts p.clause_count (λ j h l. (no_days j h (omega (arith, s.firsts))).0)),
        column_is p.lasts (λ r. r.last) (λ j. refl) s.lasts (zeros_from p.lasts p.clause_count (λ j h l. (no_days j h (omega (arith, s.lasts))).1)),
      )

  last-small : (r : Row) → r ∈ rows p → r.last ≤ 65535
  unfolding rows tabulate
  last-small r m = let u = up_from_in (row_at p) p.clause_count 0 r m in rw u.3 (s.days u.0).1

  -- its rows are over its names, and their days in order
  rows_fit : every (fitting p.dated p.atom_count) (rows p) ≡ true
  rows_fit = each_every (fitting p.dated p.atom_count) (rows p)
      (λ r m. and_is_true _ _ (and_is_true _ _ (row_clause p v r m) (row_days p v r m)) (le-leb r.last 65535 (last-small r m)))

  -- each row is the row of its numbers
  pub rows_back : map (row_of_numbers p.atom_count) (numbers_of p) ≡ rows p
  unfolding numbers_of
  rows_back = map_back (row_numbers p.dated p.atom_count) (fitting p.dated p.atom_count) (row_of_numbers p.atom_count) (row-again p.dated p.atom_count) (rows p) rows_fit

-- ---- the names and rows of a valid table are good
-- two places of eight bytes with one name are equal
abbrev whole_place : List ℕ → Bool
whole_place P = eqb (length P) 8 && is_place P

whole-places : (Y : List ℕ) (k i : ℕ) → 8 * (i + k) ≤ length Y → every is_place (up_from (place Y) k i) ≡ true → every whole_place (up_from (place Y) k i) ≡ true
unfolding up_from every
whole-places Y zero i h v = refl
whole-places Y (suc k) i h v =
    let a = both_true (is_place (place Y i)) (every is_place (up_from (place Y) k (suc i))) v in
    rw (eq-eqb (length (place Y i)) 8 (place_long Y i (omega arith)), a.0, whole-places Y k (suc i) (omega arith) a.1)

one_place : (P Q : List ℕ) → whole_place P ≡ true → whole_place Q ≡ true → named P ≡ named Q → P ≡ Q
one_place P Q a b e =
    let p = both_true (eqb (length P) 8) (is_place P) a in
    let q = both_true (eqb (length Q) 8) (is_place Q) b in
    sym (place_back P (eqb-true (length P) 8 p.0) p.1) ∙ ap (padded 8) e ∙ place_back Q (eqb-true (length Q) 8 q.0) q.1

values_small : (c : Clause) (k i : ℕ) → every is_value (up_from (clause_value c) k i) ≡ true
unfolding up_from every clause_value
values_small c zero i = refl
values_small c (suc k) i = rw (le-leb (clause_value c i) 63 (omega (arith, value_lt c.head i, value_lt c.body i, value_lt c.naf i)), values_small c k (suc i))

values_fit : (n : ℕ) (c : Clause) → every is_value (clause_values n c) ≡ true
unfolding clause_values tabulate
values_fit n c = values_small c n 0

days-small : (dated : Bool) (r : Row) → r.first ≤ r.last → r.last ≤ 65535 → every is_day (days_of dated r) ≡ true
unfolding every
days-small true r o h = rw (le-leb r.first 65535 (omega arith), le-leb r.last 65535 h)
days-small false r o h = refl

row_form : (dated : Bool) (n : ℕ) (r : Row) → fitting dated n r ≡ true → is_row dated n (row_numbers dated n r) ≡ true
unfolding is_row
row_form dated n r h =
    let t = fitting_parts dated n r h in
    rw (
      eq-eqb (length (row_numbers dated n r)) (n + cond dated 2 0) (numbers_long dated n r),
      first_numbers dated n r,
      values_fit n r.clause,
      last_numbers dated n r,
      days-small dated r t.days.order t.small,
    )

zeros_word : (k m : ℕ) → bits_of k 0 ≡ 0 → word_by k (replicate m 0) ≡ 0
unfolding word_by word_of
zeros_word k zero z = refl
zeros_word k (suc m) z = omega (arith, zeros_word k m z, z)

-- a clause with some bit has a value that is not zero
told_here : (n : ℕ) (c : Clause) → is_clause n c ≡ true → every (eqb 0) (clause_values n c) ≡ false
unfolding is_clause is_word bits_of
told_here n c h = ⊎_elim
    (λ t. let s = clause_below n c h in
    let e = zeros_are (clause_values n c) t in
    let m = length (clause_values n c) in
    let a : c.head ≡ 0 = sym (head_back n c s.heads) ∙ ap (word_by 1) e ∙ zeros_word 1 m refl in
    let b : c.body ≡ 0 = sym (body_back n c s.bodies) ∙ ap (word_by 4) e ∙ zeros_word 4 m refl in
    let d : c.naf ≡ 0 = sym (naf_back n c s.nafs) ∙ ap (word_by 16) e ∙ zeros_word 16 m refl in
    let z = (both_true (is_word n c.head && is_word n c.body && is_word n c.naf) (not (eqb c.head 0 && eqb c.body 0 && eqb c.naf 0)) h).1 in
    clash (not (eqb c.head 0 && eqb c.body 0 && eqb c.naf 0)) z (rw (eq-eqb c.head 0 a, eq-eqb c.body 0 b, eq-eqb c.naf 0 d)))
    (λ t. t) (dec (every (eqb 0) (clause_values n c)))

-- the numbers of rows that fit
module _ (dated : Bool) (n : ℕ) (R : List Row) (h : every (fitting dated n) R ≡ true) where
  rows_form : every (is_row dated n) (map (row_numbers dated n) R) ≡ true
  rows_form = every_map (row_numbers dated n) (fitting dated n) (is_row dated n) (row_form dated n) R h

  rows_told : any_of (λ vs. every (eqb 0) (take n vs)) (map (row_numbers dated n) R) ≡ false
  rows_told = none-map (row_numbers dated n) (fitting dated n) (λ vs. every (eqb 0) (take n vs))
      (λ r t. ap (every (eqb 0)) (first_numbers dated n r) ∙ told_here n r.clause (fitting_parts dated n r t).clause) R h

  rows_ordered : any_of (reversed n) (map (row_numbers dated n) R) ≡ false
  rows_ordered = none-map (row_numbers dated n) (fitting dated n) (reversed n)
      (λ r t.
      let u = (fitting_parts dated n r t).days in
      rw (number_at dated n r n 0 (omega arith) ∙ day_one dated r u, number_at dated n r (n + 1) 1 refl ∙ day_two dated r u) (le-ltb r.last r.first u.order)) R h

pub good_table : (p : Program) → Sized p → valid p ≡ true → Good p.dated (names_of p) (numbers_of p)
unfolding names_of numbers_of tabulate
good_table p s v =
    let t = valid_names p v in
    let n = p.atom_count in
    let Y = p.atom_names in
    let l : length (up_from (name_at Y) n 0) ≡ n = length-up_from (name_at Y) n 0 in
    let e = names_are_named Y n 0 in
    let f = rows_fit p s v in
    let a = t.one_up in
    let w = t.few in
    record {
      any = omega arith;
      few = omega arith;
      named = ap (every is_name) e ∙ every_map named is_place is_name place_named (up_from (place Y) n 0) t.named;
      apart = ap distinct e ∙ distinct-map named whole_place one_place (up_from (place Y) n 0) (whole-places Y n 0 (omega (arith, s.names)) t.named) t.apart;
      ending = t.ending;
      short = omega (arith, length-map (rows p) (row_numbers p.dated n), length_rows p, (valid_clauses p v).short);
      ruled = rw l (rows_form p.dated n (rows p) f);
      told = rw l (rows_told p.dated n (rows p) f);
      ordered = rw (l, rows_ordered p.dated n (rows p) f, and-false);
    }

-- ---- the table of good names and rows is valid
padded_place : (x : List ℕ) → is_name x ≡ true → is_place (padded 8 x) ≡ true
unfolding is_place zero_from
padded_place x h =
    ap₂ ◌&&◌ (ap is_name (trim x h) ∙ h) (ap (λ (n : ℕ). every (eqb 0) (drop n (padded 8 x))) (index_name x h) ∙ padded_tail 8 (length x) x refl)

padded-places : (ns : List (List ℕ)) → every is_name ns ≡ true → every is_place (map (padded 8) ns) ≡ true
padded-places = every_map (padded 8) is_name is_place padded_place

pads_apart : (ns : List (List ℕ)) → every is_name ns ≡ true → distinct ns ≡ true → distinct (map (padded 8) ns) ≡ true
pads_apart = distinct-map (padded 8) is_name (λ x y a b e. sym (trim x a) ∙ ap named e ∙ trim y b)

pub word_lt : (k : ℕ) (vs : List ℕ) → word_by k vs < 2 ^ (2 * length vs)
unfolding word_by word_of bits_of
word_lt k [] = omega arith
word_lt k (v ∷ vs) =
    let q : 2 * suc (length vs) ≡ suc (suc (2 * length vs)) = omega arith in
    let p : 2 ^ (2 * suc (length vs)) ≡ 4 * 2 ^ (2 * length vs) = ap (λ (n : ℕ). 2 ^ n) q ∙ omega (arith, pow-suc 2 (suc (2 * length vs)), pow-suc 2 (2 * length vs)) in
    omega (arith, word_lt k vs)

parts_of_lem : (v : ℕ) → v ≤ 63 → v / 1 % 4 + 4 * (v / 4 % 4) + 16 * (v / 16 % 4) ≡ v
parts_of_lem v l = omega arith

zero_of : (v : ℕ) → v ≤ 63 → v / 1 % 4 ≡ 0 → v / 4 % 4 ≡ 0 → v / 16 % 4 ≡ 0 → 0 ≡ v
zero_of v l a b c = rw (a, b, c) at (parts_of_lem v l)

words_zero : (vs : List ℕ) → every is_value vs ≡ true → word_by 1 vs ≡ 0 → word_by 4 vs ≡ 0 → word_by 16 vs ≡ 0 → every (eqb 0) vs ≡ true
unfolding every word_by word_of bits_of
words_zero [] h a b c = refl
words_zero (v ∷ vs) h a b c =
    let w = both_true (is_value v) (every is_value vs) h in
    let l = leb-true v 63 w.0 in
    let a1 : v / 1 % 4 ≡ 0 = omega (arith, a) in
    let b1 : v / 4 % 4 ≡ 0 = omega (arith, b) in
    let c1 : v / 16 % 4 ≡ 0 = omega (arith, c) in
    rw (eq-eqb 0 v (zero_of v l a1 b1 c1), words_zero vs w.1 (omega (arith, a)) (omega (arith, b)) (omega (arith, c)))

values_clause : (n : ℕ) (vs : List ℕ) → length vs ≡ n → every is_value vs ≡ true → every (eqb 0) vs ≡ false → is_clause n (clause_of_values vs) ≡ true
unfolding is_clause is_word clause_of_values
values_clause n vs l h t =
    let e : 2 ^ (2 * length vs) ≡ 2 ^ (2 * n) = ap (λ (m : ℕ). 2 ^ (2 * m)) l in
    let z : eqb (word_by 1 vs) 0 && eqb (word_by 4 vs) 0 && eqb (word_by 16 vs) 0 ≡ false = ⊎_elim
    (λ q. let u = both_true (eqb (word_by 1 vs) 0 && eqb (word_by 4 vs) 0) (eqb (word_by 16 vs) 0) q in
    let w = both_true (eqb (word_by 1 vs) 0) (eqb (word_by 4 vs) 0) u.0 in
    clash (every (eqb 0) vs) (words_zero vs h (eqb-true _ _ w.0) (eqb-true _ _ w.1) (eqb-true _ _ u.1)) t)
    (λ q. q) (dec (eqb (word_by 1 vs) 0 && eqb (word_by 4 vs) 0 && eqb (word_by 16 vs) 0)) in
    rw (
      lt-ltb (word_by 1 vs) (2 ^ (2 * n)) (omega (arith, word_lt 1 vs)),
      lt-ltb (word_by 4 vs) (2 ^ (2 * n)) (omega (arith, word_lt 4 vs)),
      lt-ltb (word_by 16 vs) (2 ^ (2 * n)) (omega (arith, word_lt 16 vs)),
      z,
    )

-- the days that a line has are in order, and 0 where it has none
numbers_fit : (dated : Bool) (n : ℕ) (vs : List ℕ) → length vs ≡ n + cond dated 2 0 → dated && reversed n vs ≡ false → days_fit dated (get_or vs n 0) (get_or vs (n + 1) 0) ≡ true
numbers_fit true n vs l h = days_fit_lem true (get_or vs n 0) (get_or vs (n + 1) 0) (ltb-false (get_or vs (n + 1) 0) (get_or vs n 0) h) (λ e. clash true refl e)
numbers_fit false n vs l h =
    let f : get_or vs n 0 ≡ 0 = get_or-eq_default vs 0 (omega arith) in
    days_fit_lem false (get_or vs n 0) (get_or vs (n + 1) 0) (omega arith) (λ e. get_or-eq_default vs 0 (omega arith))

none_here : (dated : Bool) (n : ℕ) (vss : List (List ℕ)) → dated && any_of (reversed n) vss ≡ false → Each (λ vs. dated && reversed n vs ≡ false) vss
none_here true n vss h = none_each (reversed n) vss h
none_here false n vss h = λ vs m. refl

module _ (dated : Bool) (ns vss : List (List ℕ)) (g : Good dated ns vss) where
  abbrev read_rows : List Row
  read_rows = map (row_of_numbers (length ns)) vss

  -- each row is that of a line
  line_parts : (vs : List ℕ) → vs ∈ vss → RowParts dated (length ns) vs
  line_parts vs m = row_parts dated (length ns) vs (every_each (is_row dated (length ns)) vss g.ruled vs m)

  rows-over : Each (λ r. is_clause (length ns) r.clause ≡ true) read_rows
  unfolding row_of_numbers
  rows-over r m =
      let s = map_in (row_of_numbers (length ns)) r vss m in
      let t = line_parts s.0 s.1 in
      ap (λ (r : Row). is_clause (length ns) r.clause) s.2
      ∙ values_clause (length ns) (take (length ns) s.0) t.first_n t.values (none_each (λ vs. every (eqb 0) (take (length ns) vs)) vss g.told s.0 s.1)

  days_ordered : Each (λ r. days_fit dated r.first r.last ≡ true) read_rows
  unfolding row_of_numbers
  days_ordered r m =
      let s = map_in (row_of_numbers (length ns)) r vss m in
      ap (λ (r : Row). days_fit dated r.first r.last) s.2
      ∙ numbers_fit dated (length ns) s.0 (line_parts s.0 s.1).long (none_here dated (length ns) vss g.ordered s.0 s.1)

  names_fit : names_valid dated (padded 96 (placed ns)) (length ns) ≡ true
  unfolding names_valid zero_from
  names_fit =
      let n = length ns in
      rw (
        le-leb 1 n g.any,
        le-leb n 12 g.few,
        places_of ns g.named,
        padded-places ns g.named,
        pads_apart ns g.named g.apart,
        padded_tail 96 (8 * n) (placed ns) (placed_long ns g.named),
        names_there ns g.named,
        g.ending,
      )

  rows_few : length read_rows ≤ 64
  rows_few = omega (arith, length-map vss (row_of_numbers (length ns)), g.short)

  pub valid_with : valid (table_of dated ns read_rows) ≡ true
  unfolding table_of
  valid_with = ap valid (with_rows_lem dated ns read_rows) ∙ rows_valid (table_of dated ns []) read_rows rows_few rows-over days_ordered names_fit

  -- a column of days
  column_small : (f : Row → ℕ) → ((vs : List ℕ) → every is_day vs ≡ true → f (row_of_numbers (length ns) vs) ≤ 65535) → (k : ℕ) → get_or (padded 64 (map f read_rows)) k 0 ≤ 65535
  column_small f h k =
      let e = every_of_map f is_day read_rows ∙ every_map (row_of_numbers (length ns)) (is_row dated (length ns)) (λ r. is_day (f r))
      (λ vs t. le-leb _ 65535 (h vs (row_parts dated (length ns) vs t).small)) vss g.ruled in
      rw (padded_at 64 (map f read_rows) k) (small_at 65535 (map f read_rows) k e)

  pub sized_with : Sized (table_of dated ns read_rows)
  unfolding table_of row_of_numbers
  sized_with =
      let n = length ns in
      let short : (sel : Row → ℕ) → length (map sel read_rows) ≤ 64 = λ sel. omega (arith, length-map read_rows sel, rows_few) in
      record {
        names = padded_long 96 (placed ns) (omega (arith, placed_long ns g.named, g.few));
        heads = padded_long 64 _ (short (λ r. r.clause.head));
        bodies = padded_long 64 _ (short (λ r. r.clause.body));
        nafs = padded_long 64 _ (short (λ r. r.clause.naf));
        firsts = padded_long 64 _ (short (λ r. r.first));
        lasts = padded_long 64 _ (short (λ r. r.last));
        days = λ k. (column_small (λ r. r.first) (λ vs h. small_at 65535 vs n h) k, column_small (λ r. r.last) (λ vs h. small_at 65535 vs (n + 1) h) k);
      }
