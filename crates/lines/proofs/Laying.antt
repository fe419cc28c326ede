-- Pieces laid one behind the other: items make a line, lines make a text; each piece is written behind the last. Assumes nothing.
use mathlib.Core.Path.{◌≡◌, refl, sym, ap, ◌∙◌}
use mathlib.Core.List.{List, [], ◌∷◌, ◌++◌, append_assoc, append-nil, flat_map}
use Prim.Native.Nat.{ℕ, zero, suc, ◌+◌, ◌-◌, ◌^◌, ◌≤◌, ◌<◌}
use native.Mathlib.Omega.{arith}
use mir.Syntax.{w64}
use mir.Val.{Fits}
use lib.ListN.{length, get_or, take, drop, set, length-append, length-drop, length-take}
use lib.Seq.{length-take-le, get_or-take, ext_get_or}
use borrow.Author.Tests.{lt-ltb, le-ltb}
use Rattle.sets.specs.Lists.{up_from, onward, tabulate}
use Rattle.sets.proofs.Lists.{onward_start, onward_step, onward_done, length-tabulate, get_d_tabulate, map-up_from, up_from_ext}
use Rattle.lists.specs.Bytes.{join, led, Wrote}
use Rattle.lists.proofs.Writing.{Put, put_start, put_step, put_byte, put_done, put_as, put_room, put_long, part_back, back, wrote_put, two_texts}
use Rattle.decimal.specs.Decimal.{decimal}
use Rattle.text.specs.Lines.{line_of, names_line, values_line}
use Rattle.lines.specs.Laying.{separator, item, number_at, Room}

-- f i, .., f (n - 1), one behind the other
unfoldable pub laid : (ℕ → List ℕ) → ℕ → ℕ → List ℕ
laid f n i = flat_map (λ t. t) (onward f n i)

module _ (f : ℕ → List ℕ) (n : ℕ) where
  laid_next : (i : ℕ) → i < n → laid f n i ≡ f i ++ laid f n (i + 1)
  unfolding laid flat_map
  laid_next i h = ap (flat_map (λ t. t)) (onward_step f n i h)

  laid_none : (i : ℕ) → n ≤ i → laid f n i ≡ []
  unfolding laid flat_map
  laid_none i h = ap (flat_map (λ t. t)) (onward_done f n i h)

  module _ (L xs : List ℕ) where
    -- i of the pieces of the text L stand there
    pub record Laid (at : ℕ) (out : List ℕ) (i : ℕ) : Type 0 where
      pub within : i ≤ n
      pub long : length out ≡ length xs
      pub put : Put xs L at out (laid f n i)

    pub laid_start : L ≡ laid f n 0 → length L ≤ length xs → Laid 0 xs 0
    laid_start e l = record { within = omega arith; long = refl; put = put_as xs L 0 xs _ _ (put_start xs L l) e }

    module _ (at : ℕ) (out : List ℕ) (i : ℕ) (s : Laid at out i) where
      pub laid_from : at ≤ length out
      laid_from = omega (arith, s.put.within, s.put.fits, s.long)

      pub laid_done : n ≤ i → Wrote L xs at out
      laid_done h = put_done xs L at out (put_as xs L at out _ _ s.put (laid_none i h))

      -- the next piece is t
      module _ (h : i < n) (t : List ℕ) (e : t ≡ f i) where
        next : Put xs L at out (t ++ laid f n (i + 1))
        next = put_as xs L at out _ _ s.put (laid_next i h ∙ ap (λ (l : List ℕ). l ++ laid f n (i + 1)) (sym e))

        roomy : at + length t ≤ length out
        roomy = let q = next in omega (arith, put_room xs L at out t (laid f n (i + 1)) q, q.fits, s.long)

        pub laid_room : length t ≤ length (take (length out - at) (drop at out))
        laid_room = simp (length-take, length-drop) (omega (arith, roomy))

        module _ (k : ℕ) (ws : List ℕ) (w : Wrote t (take (length out - at) (drop at out)) k ws) where
          pub laid_fits : length xs < 2 ^ 64 → Fits w64 (at + k)
          laid_fits l = record { fits = omega (arith, roomy, w.size, s.long) }

          pub laid_more : Laid (at + k) (back out at ws) (i + 1)
          laid_more =
              let u : Put xs L (at + k) (back out at ws) (laid f n (i + 1)) =
              rw w.size (put_step xs L at out t _ (back out at ws) next (part_back out t ws at (omega (arith, roomy)) w.whole)) in
              record { within = omega arith; long = put_long xs L (at + k) (back out at ws) (laid f n (i + 1)) u; put = u }

-- ---- texts that are pieces
pub flat_laid : {A : Type 0} (g : A → List ℕ) (f : ℕ → A) (n : ℕ) → flat_map g (tabulate f n) ≡ laid (λ i. g (f i)) n 0
unfolding laid tabulate flat_map up_from
flat_laid {A} g f n = go n 0 ∙ ap (flat_map (λ t. t)) (sym (onward_start (λ i. g (f i)) n))
  where
    go : (k i : ℕ) → flat_map g (up_from f k i) ≡ flat_map (λ t. t) (up_from (λ i. g (f i)) k i)
    go zero i = refl
    go (suc k) i = ap (λ (l : List ℕ). g (f i) ++ l) (go k (suc i))

-- a line is its items, each with what stands behind it
line_laid : (f : ℕ → List ℕ) (n : ℕ) → 1 ≤ n → line_of (tabulate f n) ≡ laid (item f n) n 0
unfolding line_of join led separator laid tabulate up_from flat_map onward
line_laid f zero h = absurd (omega arith)
line_laid f (suc k) h = go k 0 (omega arith) ∙ ap (flat_map (λ t. t)) (sym (onward_start (item f (suc k)) (suc k)))
  where
    go : (j i : ℕ) → i + suc j ≡ suc k → join 32 (up_from f (suc j) i) ++ 10 ∷ [] ≡ flat_map (λ t. t) (up_from (item f (suc k)) (suc j) i)
    go zero i e = rw (le-ltb (i + 1) (suc k) (omega arith)) (simp (append-nil))
    go (suc j) i e = rw (lt-ltb (i + 1) (suc k) (omega arith))
        (append_assoc (f i) (32 ∷ join 32 (up_from f (suc j) (suc i))) (10 ∷ [])
        ∙ ap (λ (l : List ℕ). f i ++ 32 ∷ l) (go j (suc i) (omega arith)) ∙ sym (append_assoc (f i) (32 ∷ []) _))

pub names_laid : (f : ℕ → List ℕ) (n : ℕ) → 1 ≤ n → names_line (tabulate f n) ≡ laid (item f n) n 0
unfolding names_line
names_laid f n h = line_laid f n h

-- the first n places of a list
pub firsts : (vs : List ℕ) (n : ℕ) → n ≤ length vs → take n vs ≡ tabulate (λ i. get_or vs i 0) n
firsts vs n h = ext_get_or 0 (take n vs) (tabulate (λ i. get_or vs i 0) n) (length-take-le n vs h ∙ sym (length-tabulate (λ i. get_or vs i 0) n))
    (λ i l. let k : i < n = omega (arith, length-take-le n vs h) in get_or-take n vs i 0 k ∙ sym (get_d_tabulate (λ i. get_or vs i 0) n i 0 k))

pub row_laid : (f : ℕ → ℕ) (n : ℕ) → 1 ≤ n → values_line (tabulate f n) ≡ laid (item (λ i. decimal (f i)) n) n 0
unfolding values_line tabulate
row_laid f n h = ap line_of (map-up_from decimal f n 0) ∙ line_laid (λ i. decimal (f i)) n h

pub values_laid : (vs : List ℕ) (n : ℕ) → 1 ≤ n → n ≤ length vs → values_line (take n vs) ≡ laid (item (number_at vs) n) n 0
values_laid vs n h l = ap values_line (firsts vs n l) ∙ row_laid (λ i. get_or vs i 0) n h

-- ---- what stands behind an item
pub between : (i n : ℕ) → i < n → 32 ≡ separator i n
unfolding separator
between i n h = rw (lt-ltb i n h)

pub behind_last : (i n : ℕ) → n ≤ i → 10 ≡ separator i n
unfolding separator
behind_last i n h = rw (le-ltb i n h)

-- ---- a byte behind a text
module _ (t xs : List ℕ) (b k : ℕ) (ys : List ℕ) (w : Wrote t xs k ys) (h : length (t ++ b ∷ []) ≤ length xs) where
  next_byte : Put xs (t ++ b ∷ []) k ys (b ∷ [])
  next_byte = wrote_put xs t (b ∷ []) ys k h w

  pub byte_fits : length xs < 2 ^ 64 → Fits w64 (k + 1)
  byte_fits l = record { fits = omega (arith, w.size, length-append t (b ∷ [])) }

  pub byte_at : k < length ys
  byte_at = omega (arith, w.size, length-append t (b ∷ []), put_long xs (t ++ b ∷ []) k ys (b ∷ []) next_byte)

  pub byte_wrote : (x : ℕ) → x ≡ b → Wrote (t ++ b ∷ []) xs (k + 1) (set ys k x)
  byte_wrote x e = rw e (put_done xs (t ++ b ∷ []) (k + 1) (set ys k b) (put_byte xs (t ++ b ∷ []) k ys b [] next_byte))

-- ---- one text behind the other
module _ (n most : ℕ) (xs t u : List ℕ) where
  pub first_fits : length (t ++ u) ≤ length xs → length t ≤ length xs
  first_fits h = omega (arith, length-append t u)

  pub first_room : Room n most (t ++ u) xs → Room n most t xs
  first_room h = record { some = h.some; few = h.few; room = first_fits h.room }

  module _ (a : ℕ) (ys : List ℕ) (w : Wrote t xs a ys) (h : Room n most (t ++ u) xs) where
    both_room : a + length u ≤ length ys
    both_room = omega (arith, w.size, ap length w.whole, length-append t (drop (length t) xs), length-drop (length t) xs, length-append t u, h.room)

    pub second_from : a ≤ length ys
    second_from = omega (arith, both_room)

    pub second_room : Room n most u (take (length ys - a) (drop a ys))
    second_room = record { some = h.some; few = h.few; room = simp (length-take, length-drop) (omega (arith, both_room)) }

    module _ (b : ℕ) (ws : List ℕ) (v : Wrote u (take (length ys - a) (drop a ys)) b ws) where
      pub both_fits : length xs < 2 ^ 64 → Fits w64 (a + b)
      both_fits l = record { fits = omega (arith, w.size, v.size, length-append t u, h.room) }

      pub both_wrote : Wrote (t ++ u) xs (a + b) (back ys a ws)
      both_wrote = two_texts xs t u a b ys ws h.room w v

-- ---- rows of values that stand in an array
module _ (f : ℕ → ℕ) (vs : List ℕ) (n most : ℕ) (e : vs ≡ tabulate f most) where
  row_is : n ≤ most → values_line (take n vs) ≡ values_line (tabulate f n)
  unfolding tabulate
  row_is h =
      let l : length vs ≡ most = ap length e ∙ length-tabulate f most in
      ap values_line (firsts vs n (omega arith)
      ∙ up_from_ext (λ i. get_or vs i 0) f n 0 (λ j k. ap (λ (l : List ℕ). get_or l j 0) e ∙ get_d_tabulate f most j 0 (omega arith)))

  module _ (xs : List ℕ) (h : Room n most (values_line (tabulate f n)) xs) where
    pub row_room : Room n (length vs) (values_line (take n vs)) xs
    row_room = let l : length vs ≡ most = ap length e ∙ length-tabulate f most in
        record { some = h.some; few = omega (arith, h.few); room = rw (row_is h.few) h.room }

    pub row_wrote : (r : ℕ) (ys : List ℕ) → Wrote (values_line (take n vs)) xs r ys → Wrote (values_line (tabulate f n)) xs r ys
    row_wrote r ys w = rw (← row_is h.few) w
