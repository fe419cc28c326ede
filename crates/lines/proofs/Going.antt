-- A line that was written and goes on: its end becomes a space, and another line stands behind. Assumes nothing.
use mathlib.Core.Path.{◌≡◌, refl, sym, ap, ◌∙◌}
use mathlib.Core.Bool.{Bool, true, false, cond, not}
use mathlib.Core.List.{List, [], ◌∷◌, ◌++◌, map, map-append, append_assoc, append-nil}
use Prim.Native.Nat.{ℕ, ◌+◌, ◌-◌, ◌^◌, ◌≤◌, ◌<◌}
use native.Mathlib.Omega.{arith}
use mir.Syntax.{w64}
use mir.Val.{Fits}
use lib.ListN.{length, take, drop, set, length-append, length-map, length-drop, length-set}
use lib.Seq.{set_at}
use borrow.Author.Tests.{not-true, not-false}
use Rattle.sets.specs.Lists.{tabulate}
use Rattle.sets.proofs.Lists.{length-tabulate}
use Rattle.lists.specs.Bytes.{led, join, Wrote}
use Rattle.lists.proofs.Writing.{back}
use Rattle.decimal.specs.Decimal.{decimal}
use Rattle.program.specs.Clauses.{Clause, row_of}
use Rattle.program.specs.Names.{from_word, to_word}
use Rattle.program.specs.Values.{clause_value, clause_values}
use Rattle.text.specs.Lines.{line_of, names_line, values_line}
use Rattle.text.specs.Render.{book_items, row_numbers}
use Rattle.text.proofs.Words.{join-append}
use Rattle.lines.specs.Laying.{Room}
use Rattle.lines.proofs.Laying.{second_room, both_wrote}

-- the line L is the line F without its end, a space, and the line S
pub record GoesOn (F S L : List ℕ) : Type 0 where
  pub begun : List ℕ
  pub ends : F ≡ begun ++ 10 ∷ []
  pub whole : L ≡ (begun ++ 32 ∷ []) ++ S

pub both_long : (F S L : List ℕ) → GoesOn F S L → length L ≡ length F + length S
both_long F S L g =
    let t = g.begun in
    omega (arith, ap length g.ends, length-append t (10 ∷ []), ap length g.whole, length-append (t ++ 32 ∷ []) S, length-append t (32 ∷ []))

-- ---- the end of a line that was written
module _ (F xs : List ℕ) (a : ℕ) (ys : List ℕ) (s : 1 ≤ length F) (w : Wrote F xs a ys) where
  pub end_from : 1 ≤ a
  end_from = omega (arith, w.size)

  pub end_at : a - 1 < length ys
  end_at = omega (arith, w.size, ap length w.whole, length-append F (drop (length F) xs))

  pub end_behind : a ≤ length (set ys (a - 1) 32)
  end_behind = omega (arith, end_at, length-set ys (a - 1) 32)

-- ---- what stands behind it
module _ (n most : ℕ) (F S L xs : List ℕ) (g : GoesOn F S L) (h : Room n most L xs) (a : ℕ) (ys : List ℕ) (w : Wrote F xs a ys) where
  long : a ≡ length g.begun + 1
  long = w.size ∙ ap length g.ends ∙ length-append g.begun (10 ∷ [])

  both : Room n most ((g.begun ++ 32 ∷ []) ++ S) xs
  both = record { some = h.some; few = h.few; room = rw (← g.whole) h.room }

  space : Wrote (g.begun ++ 32 ∷ []) xs a (set ys (a - 1) 32)
  space =
      let t = g.begun in
      let l : length (t ++ 32 ∷ []) ≡ a = length-append t (32 ∷ []) ∙ sym long in
      let e : ys ≡ t ++ 10 ∷ drop (length F) xs = w.whole ∙ ap (λ (u : List ℕ). u ++ drop (length F) xs) g.ends ∙ append_assoc t (10 ∷ []) (drop (length F) xs) in
      let s : set ys (a - 1) 32 ≡ t ++ 32 ∷ drop (length F) xs = ap (λ (u : List ℕ). set u (a - 1) 32) e ∙ set_at t 10 (drop (length F) xs) 32 (a - 1) (omega (arith, long)) in
      record { size = sym l; whole = s ∙ rw (← w.size, ← l) (sym (append_assoc t (32 ∷ []) (drop (length (t ++ 32 ∷ [])) xs))) }

  pub on_room : length S ≤ length (take (length (set ys (a - 1) 32) - a) (drop a (set ys (a - 1) 32)))
  on_room = (second_room n most xs (g.begun ++ 32 ∷ []) S a (set ys (a - 1) 32) space both).room

  pub on_wrote : (b : ℕ) (ws : List ℕ) → Wrote S (take (length (set ys (a - 1) 32) - a) (drop a (set ys (a - 1) 32))) b ws
      → Wrote L xs (a + b) (back (set ys (a - 1) 32) a ws)
  on_wrote b ws v = rw g.whole (both_wrote n most xs (g.begun ++ 32 ∷ []) S a (set ys (a - 1) 32) space both b ws v)

-- ---- a text that was written where there is room for it
module _ (n most : ℕ) (L xs : List ℕ) (r : ℕ) (ys : List ℕ) (w : Wrote L xs r ys) (h : Room n most L xs) where
  pub wrote_fits : length xs < 2 ^ 64 → Fits w64 r
  wrote_fits l = record { fits = omega (arith, w.size, h.room) }

  pub wrote_same : length ys ≡ length xs
  wrote_same = omega (arith, ap length w.whole, length-append L (drop (length L) xs), length-drop (length L) xs, h.room)

longer : (dated : Bool) (F S L : List ℕ) → (not dated ≡ false → GoesOn F S L) → (not dated ≡ true → L ≡ F) → length L ≡ length F + cond dated (length S) 0
longer true F S L g e = both_long F S L (g refl)
longer false F S L g e = ap length (e refl) ∙ omega arith

-- ---- two lines of items
line_some : (ps : List (List ℕ)) → 1 ≤ length (line_of ps)
unfolding line_of
line_some ps = omega (arith, length-append (join 32 ps) (10 ∷ []))

goes_on : (ps qs : List (List ℕ)) → 1 ≤ length ps → 1 ≤ length qs → GoesOn (line_of ps) (line_of qs) (line_of (ps ++ qs))
unfolding line_of join led
goes_on ps [] h k = absurd (omega arith)
goes_on ps (q ∷ qs) h k = record {
  begun = join 32 ps;
  ends = refl;
  whole = ap (λ (l : List ℕ). l ++ 10 ∷ []) (join-append 32 ps (q ∷ qs) h)
      ∙ append_assoc (join 32 ps) (32 ∷ join 32 (q ∷ qs)) (10 ∷ []) ∙ sym (append_assoc (join 32 ps) (32 ∷ []) (line_of (q ∷ qs)));
}

-- "from to", and the line's end
abbrev pub words_line : List ℕ
words_line = 102 ∷ 114 ∷ 111 ∷ 109 ∷ 32 ∷ 116 ∷ 111 ∷ 10 ∷ []

-- the names line of a book, from that of its names
pub names_some : (ns : List (List ℕ)) → 1 ≤ length (names_line ns)
unfolding names_line
names_some ns = line_some ns

module _ (f : ℕ → List ℕ) (n : ℕ) (dated : Bool) where
  pub names_go : 1 ≤ n → not dated ≡ false → GoesOn (names_line (tabulate f n)) words_line (names_line (book_items dated (tabulate f n)))
  unfolding names_line book_items line_of join led
  names_go any t = rw (not-false dated t) (goes_on (tabulate f n) (from_word ∷ to_word ∷ []) (omega (arith, length-tabulate f n)) (omega arith))

  names_stay : not dated ≡ true → names_line (book_items dated (tabulate f n)) ≡ names_line (tabulate f n)
  unfolding book_items
  names_stay t = rw (not-true dated t)

  pub names_long : 1 ≤ n → length (names_line (book_items dated (tabulate f n))) ≡ length (names_line (tabulate f n)) + cond dated 8 0
  names_long any = longer dated (names_line (tabulate f n)) words_line (names_line (book_items dated (tabulate f n))) (names_go any) names_stay

  pub names_room : (most : ℕ) (xs : List ℕ) → Room n most (names_line (book_items dated (tabulate f n))) xs → Room n most (names_line (tabulate f n)) xs
  names_room most xs h = record { some = h.some; few = h.few; room = omega (arith, h.room, names_long h.some) }

  pub names_wrote : (r : ℕ) (xs ys : List ℕ) → not dated ≡ true → Wrote (names_line (tabulate f n)) xs r ys → Wrote (names_line (book_items dated (tabulate f n))) xs r ys
  names_wrote r xs ys t w = rw (names_stay t) w

-- the line of a row, from that of its values
pub values_some : (vs : List ℕ) → 1 ≤ length (values_line vs)
unfolding values_line
values_some vs = line_some (map decimal vs)

module _ (c : Clause) (k l n : ℕ) (dated : Bool) where
  pub values_go : 1 ≤ n → not dated ≡ false → GoesOn (values_line (clause_values n c)) (values_line (k ∷ l ∷ [])) (values_line (row_numbers dated n (row_of c k l)))
  unfolding values_line row_numbers clause_values
  values_go any t =
      let m : length (map decimal (clause_values n c)) ≡ n = length-map (clause_values n c) decimal ∙ length-tabulate (clause_value c) n in
      rw (not-false dated t, map-append decimal (clause_values n c) (k ∷ l ∷ [])) (goes_on (map decimal (clause_values n c)) (decimal k ∷ decimal l ∷ []) (omega arith) (omega arith))

  values_stay : not dated ≡ true → values_line (row_numbers dated n (row_of c k l)) ≡ values_line (clause_values n c)
  unfolding row_numbers
  values_stay t = rw (not-true dated t, append-nil)

  pub values_long : 1 ≤ n → length (values_line (row_numbers dated n (row_of c k l))) ≡ length (values_line (clause_values n c)) + cond dated (length (values_line (k ∷ l ∷ []))) 0
  values_long any = longer dated (values_line (clause_values n c)) (values_line (k ∷ l ∷ [])) (values_line (row_numbers dated n (row_of c k l))) (values_go any) values_stay

  pub values_room : (most : ℕ) (xs : List ℕ) → Room n most (values_line (row_numbers dated n (row_of c k l))) xs → Room n most (values_line (clause_values n c)) xs
  values_room most xs h = record { some = h.some; few = h.few; room = omega (arith, h.room, values_long h.some) }

  pub values_wrote : (r : ℕ) (xs ys : List ℕ) → not dated ≡ true → Wrote (values_line (clause_values n c)) xs r ys → Wrote (values_line (row_numbers dated n (row_of c k l))) xs r ys
  values_wrote r xs ys t w = rw (values_stay t) w
