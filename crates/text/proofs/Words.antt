-- The two words behind the names of a dated book: as items, and as the bytes that end its names line. Assumes nothing.
use mathlib.Core.Path.{◌≡◌, refl, sym, ap, ◌∙◌}
use mathlib.Core.Bool.{Bool, true, false, cond}
use mathlib.Core.Logic.{⊎_elim}
use mathlib.Core.List.{List, [], ◌∷◌, ◌++◌, append_assoc}
use Prim.Native.Nat.{ℕ, ◌+◌, ◌-◌, ◌≤◌, ◌<◌}
use native.Mathlib.Omega.{arith}
use lib.Dec.{eqb}
use lib.ListN.{length, take, drop, length-append, take-append-drop}
use lib.Seq.{drop_at, length-take-le}
use borrow.Author.Tests.{eq-eqb}
use Rattle.sets.proofs.Tests.{dec, clash}
use Rattle.lists.specs.Bytes.{same, onto, pieces, led, join}
use Rattle.lists.proofs.Loops.{same_true, same_self}
use Rattle.lists.proofs.Pieces.{join-pieces, length-pieces}
use Rattle.program.specs.Names.{from_word, to_word, ends_dated}
use Rattle.text.specs.Render.{book_items}
use Rattle.text.proofs.Tests.{names_in, ends_long}
use Rattle.text.proofs.Books.{ends_are, ends-again, names_in_again}

abbrev pub two_words : List (List ℕ)
two_words = from_word ∷ to_word ∷ []

-- " from to"
abbrev pub word_bytes : List ℕ
word_bytes = 32 ∷ 102 ∷ 114 ∷ 111 ∷ 109 ∷ 32 ∷ 116 ∷ 111 ∷ []

-- ---- pieces behind pieces
module _ (c : ℕ) where
  led-append : (ps qs : List (List ℕ)) → led c (ps ++ qs) ≡ led c ps ++ led c qs
  unfolding led
  led-append [] qs = refl
  led-append (p ∷ ps) qs = ap (λ (l : List ℕ). c ∷ (p ++ l)) (led-append ps qs) ∙ ap (λ (l : List ℕ). c ∷ l) (sym (append_assoc p (led c ps) (led c qs)))

  pub join-append : (ps qs : List (List ℕ)) → 1 ≤ length ps → join c (ps ++ qs) ≡ join c ps ++ led c qs
  unfolding join
  join-append [] qs h = absurd (omega arith)
  join-append (p ∷ ps) qs h = ap (λ (l : List ℕ). p ++ l) (led-append ps qs) ∙ sym (append_assoc p (led c ps) (led c qs))

  onto-append : (x : ℕ) (ps qs : List (List ℕ)) → 1 ≤ length ps → onto x (ps ++ qs) ≡ onto x ps ++ qs
  unfolding onto
  onto-append x [] qs h = absurd (omega arith)
  onto-append x (p ∷ ps) qs h = refl

  pieces-append : (xs ys : List ℕ) → pieces c (xs ++ c ∷ ys) ≡ pieces c xs ++ pieces c ys
  unfolding pieces
  pieces-append [] ys = rw (eq-eqb c c refl)
  pieces-append (x ∷ xs) ys = rw (pieces-append xs ys) (go (eqb x c))
    where
      go : (t : Bool) → cond t ([] ∷ (pieces c xs ++ pieces c ys)) (onto x (pieces c xs ++ pieces c ys)) ≡ cond t ([] ∷ pieces c xs) (onto x (pieces c xs)) ++ pieces c ys
      go true = refl
      go false = onto-append x (pieces c xs) (pieces c ys) (omega (arith, length-pieces c xs))

some_piece : (xs : List ℕ) → 1 ≤ length (pieces 32 xs)
some_piece xs = omega (arith, length-pieces 32 xs)

-- ---- a line that ends in the two words
module _ (xs : List ℕ) where
  split : pieces 32 (xs ++ word_bytes) ≡ pieces 32 xs ++ two_words
  unfolding pieces onto
  split = pieces-append 32 xs (102 ∷ 114 ∷ 111 ∷ 109 ∷ 32 ∷ 116 ∷ 111 ∷ [])

  ends-dated : ends_dated (pieces 32 (xs ++ word_bytes)) ≡ true
  unfolding book_items
  ends-dated = ap ends_dated split ∙ ends-again true (pieces 32 xs) (some_piece xs) refl

  names_before : names_in (pieces 32 (xs ++ word_bytes)) ≡ pieces 32 xs
  unfolding book_items
  names_before = ap names_in split ∙ names_in_again true (pieces 32 xs) (some_piece xs) refl

-- what stands before them
before : List ℕ → List ℕ
before line = join 32 (take (length (pieces 32 line) - 2) (pieces 32 line))

module _ (line : List ℕ) where
  by_bytes : ends_dated (pieces 32 line) ≡ true → line ≡ before line ++ word_bytes
  unfolding join led before
  by_bytes t =
      let is = pieces 32 line in
      let l : length (take (length is - 2) is) ≡ length is - 2 = length-take-le (length is - 2) is (omega arith) in
      sym (join-pieces 32 line) ∙ ap (join 32) (sym (ends_are is t)) ∙ join-append 32 (take (length is - 2) is) two_words (omega (arith, ends_long is t))

  pub dated_long : ends_dated (pieces 32 line) ≡ true → 8 ≤ length line
  dated_long t = omega (arith, ap length (by_bytes t), length-append (before line) word_bytes)

  -- a line shorter than the words does not end in them
  pub short-undated : length line < 8 → false ≡ ends_dated (pieces 32 line)
  short-undated h = ⊎_elim (λ t. absurd (omega (arith, dated_long t))) sym (dec (ends_dated (pieces 32 line)))

  module _ (h : 8 ≤ length line) where
    front : same (drop (length line - 8) line) word_bytes ≡ true → line ≡ take (length line - 8) line ++ word_bytes
    front t = sym (take-append-drop (length line - 8) line) ∙ ap (λ (l : List ℕ). take (length line - 8) line ++ l) (same_true (drop (length line - 8) line) word_bytes t)

    -- any other is dated exactly where its last bytes are they
    pub dated_bytes : same (drop (length line - 8) line) word_bytes ≡ ends_dated (pieces 32 line)
    dated_bytes = ⊎_elim
        (λ t. let e = by_bytes t in
        let k : length (before line) ≡ length line - 8 = omega (arith, ap length e, length-append (before line) word_bytes) in
        let d : drop (length line - 8) line ≡ word_bytes = ap (drop (length line - 8)) e ∙ drop_at (before line) word_bytes (length line - 8) k in
        ap (λ (l : List ℕ). same l word_bytes) d ∙ same_self word_bytes ∙ sym t)
        (λ f. ⊎_elim (λ t. clash (ends_dated (pieces 32 line)) (ap (λ (l : List ℕ). ends_dated (pieces 32 l)) (front t) ∙ ends-dated (take (length line - 8) line)) f) (λ g. g ∙ sym f)
        (dec (same (drop (length line - 8) line) word_bytes)))
        (dec (ends_dated (pieces 32 line)))

    -- and its names are the items before them
    pub names_front : ends_dated (pieces 32 line) ≡ true → names_in (pieces 32 line) ≡ pieces 32 (take (length line - 8) line)
    names_front t = ap (λ (l : List ℕ). names_in (pieces 32 l)) (front (dated_bytes ∙ t)) ∙ names_before (take (length line - 8) line)
