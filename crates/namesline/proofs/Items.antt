-- Loops over the items of the names line, and what they decide. Assumes nothing.
use mathlib.Core.Path.{◌≡◌, refl, sym, ap, ◌∙◌}
use mathlib.Core.Bool.{Bool, true, false, cond, not, ◌&&◌, ◌||◌, and-true, and_assoc}
use mathlib.Core.Logic.{⊎_elim}
use mathlib.Core.List.{List, [], ◌∷◌}
use Prim.Native.Nat.{ℕ, ◌+◌, ◌-◌, ◌≤◌, ◌<◌}
use native.Mathlib.Omega.{arith}
use lib.Dec.{eqb, leb}
use lib.Pointwise.{pointwise}
use lib.ListN.{length, take, drop, length-drop}
use lib.Seq.{length-take-le, take_all, take-take}
use borrow.Author.Tests.{le-leb, lt-leb, eq-eqb, ne_eqb}
use Rattle.std.specs.List.{list_any, slice_split}
use Rattle.std.proofs.lemmas.List.Recursion.{same_from_clauses}
use Rattle.sets.proofs.Tests.{dec, lt_or_ge, same?}
use Rattle.lists.proofs.Loops.{same_true}
use Rattle.table_names.proofs.Chains.{split_pieces}
use Rattle.sets.specs.Lists.{every, any_of}
use Rattle.lists.specs.Bytes.{same, distinct, pieces, left, EndsAt}
use Rattle.lists.proofs.Pieces.{part, left_start, left_step, left_done, length-pieces}
use Rattle.program.specs.Names.{is_name, ends_dated}
use Rattle.program.specs.Refusals.{lowest}
use Rattle.program.proofs.Places.{up_to}
use Rattle.text.specs.Lines.{HasLine, is_dated, names}
use Rattle.text.specs.Refusals.{names_broken, names_equal}
use Rattle.text.proofs.Tests.{dated_is, names_are}
use Rattle.text.proofs.Words.{word_bytes, short-undated, dated_long, dated_bytes, names_front}
use Rattle.namesline.specs.declared.NamesLine.{NamesLine}
use Rattle.namesline.specs.NamesLine.{names_said, NamesEnd, names_refusal}

module _ (xs : List ℕ) where
  -- the next item, and those behind it
  step : (at e : ℕ) → at ≤ length xs → EndsAt xs 32 at e → left 32 xs at ≡ part xs at e ∷ left 32 xs (e + 1)
  step at e h q = rw q.is (left_step 32 xs at h)

  -- the items below at have been counted and tested
  pub record Naming (at count : ℕ) (named apart : Bool) : Type 0 where
    pub near : count ≤ at
    pub many : count + length (left 32 xs at) ≡ length (pieces 32 xs)
    pub names : named && every is_name (left 32 xs at) ≡ every is_name (pieces 32 xs)
    pub differ : apart && distinct (left 32 xs at) ≡ distinct (pieces 32 xs)

  pub naming_start : Naming 0 0 true true
  naming_start =
      let e = left_start 32 xs in
      record { near = omega arith; many = omega (arith, ap length e); names = ap (every is_name) e; differ = ap distinct e }

  pub naming_more : (at e count : ℕ) (named apart n s : Bool) → Naming at count named apart → at ≤ length xs → EndsAt xs 32 at e
      → n ≡ is_name (part xs at e) → s ≡ any_of (same (part xs at e)) (left 32 xs (e + 1)) → Naming (e + 1) (count + 1) (named && n) (apart && not s)
  unfolding every distinct
  naming_more at e count named apart n s k h q f g =
      let st = step at e h q in
      record {
        near = omega (arith, k.near, q.from);
        many = omega (arith, k.many, ap length st);
        names = and_assoc named n _ ∙ (rw (st, ← f) at k.names);
        differ = but_on apart s _ ∙ (rw (st, ← g) at k.differ);
      }
    where
      but_on : (a b c : Bool) → (a && not b) && c ≡ a && cond b false c
      but_on true true c = refl
      but_on true false c = refl
      but_on false b c = refl

  pub naming_done : (at count : ℕ) (named apart : Bool) → Naming at count named apart → length xs < at
      → record { count = count; named = named; apart = apart } ≡ names_said (pieces 32 xs)
  unfolding names_said every distinct
  naming_done at count named apart s h =
      let e = left_done 32 xs at h in
      let c : count ≡ length (pieces 32 xs) = omega (arith, s.many, ap length e) in
      let n : named ≡ every is_name (pieces 32 xs) = sym (and-true named) ∙ (rw e at s.names) in
      let a : apart ≡ distinct (pieces 32 xs) = sym (and-true apart) ∙ (rw e at s.differ) in
      rw (c, n, a)

-- ---- the items behind a place
pub any_behind : (p : List ℕ → Bool) (xs : List ℕ) (from : ℕ) (r : Bool) → from ≤ length xs → r ≡ list_any p (slice_split (λ b. eqb b 32) (take (length xs - from) (drop from xs))) → r ≡ any_of p (left 32 xs from)
unfolding left any_of
any_behind p xs from r h e = rw (le-leb from (length xs) h)
    (e ∙ ap (λ (l : List ℕ). list_any p (slice_split (λ b. eqb b 32) l)) (take_all (length xs - from) (drop from xs) (omega (arith, length-drop from xs)))
    ∙ ap (list_any p) (split_pieces 32 (drop from xs)) ∙ same_from_clauses (list_any p) (any_of p) (λ x b. p x || b) refl (λ _ _. refl) (λ _ _. refl) (pieces 32 (drop from xs)))

pub none_behind : (p : List ℕ → Bool) (xs : List ℕ) (from : ℕ) → length xs < from → leb from (length xs) ≡ any_of p (left 32 xs from)
unfolding left any_of
none_behind p xs from h = rw (lt-leb from (length xs) h)

-- ---- whether the items end in the two words
eqb_swap : (x y : ℕ) → eqb x y ≡ eqb y x
eqb_swap x y = ⊎_elim (λ (e : x ≡ y). rw (eq-eqb x y e, eq-eqb y x (sym e))) (λ f. rw (ne_eqb x y f, ne_eqb y x (λ e. f (sym e)))) (same? x y)

pointwise_same : (xs ys : List ℕ) → pointwise eqb xs ys ≡ same ys xs
unfolding same
pointwise_same [] [] = refl
pointwise_same [] (y ∷ ys) = refl
pointwise_same (x ∷ xs) [] = refl
pointwise_same (x ∷ xs) (y ∷ ys) = rw (eqb_swap x y, pointwise_same xs ys)

pub dated_part : (line : List ℕ) (t : Bool) → t ≡ pointwise eqb word_bytes (drop (length line - 8) line) → t ≡ ends_dated (pieces 32 line)
dated_part line t e =
    let d = drop (length line - 8) line in
    let same_end : t ≡ same d word_bytes = e ∙ pointwise_same word_bytes d in
    ⊎_elim
    (λ (l : length line < 8).
    let other : same d word_bytes ≡ false = ⊎_elim (λ k. absurd (omega (arith, ap length (same_true d word_bytes k), length-drop (length line - 8) line))) (λ f. f) (dec (same d word_bytes)) in
    same_end ∙ other ∙ short-undated line l)
    (λ h. same_end ∙ dated_bytes line h)
    (lt_or_ge (length line) 8)

-- ---- where the names end
module _ (b : List ℕ) (e : ℕ) (h : HasLine b) (q : EndsAt b 10 0 e) where
  pub dated_by : (t : Bool) → t ≡ ends_dated (pieces 32 (take e b)) → t ≡ is_dated b
  dated_by t f = f ∙ sym (dated_is b e h q)

  module _ (t : Bool) (f : t ≡ ends_dated (pieces 32 (take e b))) where
    pub words_fit : t ≡ true → 8 ≤ e
    words_fit d = omega (arith, dated_long (take e b) (sym f ∙ d), up_to 10 b e q)

    pub end_dated : t ≡ true → NamesEnd b (e - 8)
    end_dated d =
        let w = words_fit d in
        let k : length (take e b) - 8 ≡ e - 8 = omega (arith, up_to 10 b e q) in
        record {
          within = omega (arith, q.to);
          items = names_are b e h q ∙ names_front (take e b) (omega (arith, up_to 10 b e q)) (sym f ∙ d)
              ∙ ap (pieces 32) (ap (λ (j : ℕ). take j (take e b)) k ∙ take-take (e - 8) e b (omega arith));
        }

    pub end_undated : t ≡ false → NamesEnd b e
    end_undated d = record { within = omega (arith, q.to); items = names_are b e h q ∙ rw (← f, d) }

-- the part of the text that the names stand on
pub front_long : (b : List ℕ) (e : ℕ) → NamesEnd b e → length (take e b) ≡ e
front_long b e q = length-take-le e b q.within

-- ---- 5, 6 or neither
module _ (b : List ℕ) (e : ℕ) (l : NamesLine) (h : HasLine b) (q : NamesEnd b e) (f : l ≡ names_said (pieces 32 (take e b))) where
  some : 1 ≤ length (names b)
  some = omega (arith, ap length q.items, length-pieces 32 (take e b))

  broken_is : not (leb l.count 12 && l.named) ≡ names_broken b
  unfolding names_said names_broken
  broken_is = rw (f, ← q.items) (rw (le-leb 1 (length (names b)) some))

  equal_is : not l.apart ≡ names_equal b
  unfolding names_said names_equal
  equal_is = rw (f, ← q.items)

  pub refusal_tests : names_refusal b ≡ cond (not (leb l.count 12 && l.named)) 5 (cond (not l.apart) 6 0)
  unfolding names_refusal lowest
  refusal_tests = rw (broken_is, equal_is)
