-- What the summary says of values and not of bits. Assumes nothing.
use Rattle.program.proofs.Lowest.{rises, numbers_known, number_lowest}
use mathlib.Core.Path.{◌≡◌, refl, sym, ap, ◌∙◌}
use mathlib.Core.Logic.{◌↔◌, ⊎_elim}
use mathlib.Core.Bool.{Bool, true, false, cond, not, ◌&&◌, ◌||◌}
use mathlib.Core.List.{List, []}
use Prim.Native.Nat.{ℕ, zero, suc, ◌+◌, ◌*◌, ◌/◌, ◌%◌, ◌^◌, ◌≤◌, ◌<◌}
use native.Mathlib.Omega.{arith}
use lib.Dec.{eqb}
use lib.ListN.{get_or, get_or-eq_default}
use borrow.Author.Tests.{eq-eqb, ne_eqb, eqb-true, lt-ltb, le-ltb}
use Rattle.sets.specs.Lists.{◌∈◌, every, any_of, tabulate, below}
use Rattle.sets.specs.Words.{bit}
use Rattle.sets.proofs.Tests.{clash, both_true, and_is_true, lt_or_ge, same?, not_T_false}
use Rattle.sets.proofs.Digits.{bit_div, bit-small}
use Rattle.sets.proofs.Lists.{every_each, each_every, some_in, in_some, length-tabulate, get_d_tabulate, below_in}
use Rattle.lists.specs.Bytes.{one_if}
use Rattle.lists.proofs.Padding.{filler_at}
use Rattle.program.specs.declared.Program.{Program}
use Rattle.program.specs.Values.{is_word, value_in}
use Rattle.program.specs.Refusals.{lowest, refusal_of, refused_by, numbered}
use Rattle.program.specs.Valid.{valid}
use Rattle.program.proofs.Values.{value_lt}
use Rattle.program.proofs.Validity.{valid_names}
use Rattle.summary.specs.Summary.{occurs, bit_if, occurring_in, is_settled, shown_at, settled_at, refusal, refused_summary, summary_with, summary_of, refusals}
use Rattle.summary.specs.Meaning.{Occurs, ExactlyOne, Means}
use Rattle.summary.proofs.Laws.{shown_out}

-- ---- the test `occurs`
pub occurs_exactly : (v i : ℕ) (words : List ℕ) → (occurs v i words ≡ true) ↔ Occurs v i words
unfolding occurs Occurs
occurs_exactly v i words = (
  λ t. let s = some_in (λ w. eqb (value_in w i) v) words t in (s.0, s.1, eqb-true _ _ s.2),
  λ s. in_some (λ w. eqb (value_in w i) v) words s.0 s.1 (eq-eqb _ _ s.2),
)

-- only "the four values" occur
occurs_lt : (v i : ℕ) (words : List ℕ) → Occurs v i words → v < 4
unfolding Occurs
occurs_lt v i words s = let e : value_in s.0 i ≡ v = s.2 in omega (arith, value_lt s.0 i)

-- ---- tests as numbers
one_le : (b : Bool) → one_if b ≤ 1
one_le true = omega arith
one_le false = omega arith

one_test : (b : Bool) → eqb (one_if b) 1 ≡ b
one_test true = refl
one_test false = refl

bit_if_lem : (b : Bool) (k : ℕ) → bit_if b k ≡ k * one_if b
bit_if_lem true k = omega arith
bit_if_lem false k = omega arith

-- a number below four, by cases
below_four : (P : ℕ → Type 0) → P 0 → P 1 → P 2 → P 3 → (v : ℕ) → v < 4 → P v
below_four P a b c d zero h = a
below_four P a b c d (suc zero) h = b
below_four P a b c d (suc (suc zero)) h = c
below_four P a b c d (suc (suc (suc zero))) h = d
below_four P a b c d (suc (suc (suc (suc v)))) h = absurd (omega arith)

-- ---- what is shown for a name
module _ (words : List ℕ) (i : ℕ) where
  -- 1 where the value v occurs, 0 where not
  abbrev number : ℕ → ℕ
  number v = one_if (occurs v i words)

  -- the four digits of a number
  record Four (s : ℕ) : Type 0 where
    d0 : s % 2 ≡ number 0
    d1 : s / 2 % 2 ≡ number 1
    d2 : s / 4 % 2 ≡ number 2
    d3 : s / 8 % 2 ≡ number 3
    few : s < 16

  four_of : (s : ℕ) → s ≡ number 0 + 2 * number 1 + 4 * number 2 + 8 * number 3 → Four s
  four_of s e =
      let a = one_le (occurs 0 i words) in
      let b = one_le (occurs 1 i words) in
      let c = one_le (occurs 2 i words) in
      let d = one_le (occurs 3 i words) in
      record { d0 = omega arith; d1 = omega arith; d2 = omega arith; d3 = omega arith; few = omega arith }

  four : Four (occurring_in words i)
  unfolding occurring_in
  four = four_of _ (omega (arith, bit_if_lem (occurs 0 i words) 1, bit_if_lem (occurs 1 i words) 2, bit_if_lem (occurs 2 i words) 4, bit_if_lem (occurs 3 i words) 8))

  -- bit v is the test of the value v
  bit_occurs : (v : ℕ) → v < 4 → bit (occurring_in words i) v ≡ occurs v i words
  bit_occurs = below_four (λ (v : ℕ). bit (occurring_in words i) v ≡ occurs v i words)
      (at 0 (omega (arith, four.d0))) (at 1 four.d1) (at 2 four.d2) (at 3 four.d3)
    where
      at : (v : ℕ) → occurring_in words i / 2 ^ v % 2 ≡ number v → bit (occurring_in words i) v ≡ occurs v i words
      at v e = bit_div (occurring_in words i) v ∙ ap (λ (d : ℕ). eqb d 1) e ∙ one_test (occurs v i words)

  -- no bit from 4 on is set
  pub four_bits : (v : ℕ) → 4 ≤ v → bit (occurring_in words i) v ≡ false
  four_bits v h = not_T_false _ (λ t. let l = bit-small (occurring_in words i) 4 v four.few t in omega arith)

  -- bit v is set exactly where the value v occurs
  pub shown_exactly : (v : ℕ) → (bit (occurring_in words i) v ≡ true) ↔ Occurs v i words
  shown_exactly v = ⊎_elim
      (λ (h : v < 4). rw (bit_occurs v h) (occurs_exactly v i words))
      (λ (h : 4 ≤ v). (λ t. clash _ t (four_bits v h), λ s. absurd (let l = occurs_lt v i words s in omega arith)))
      (lt_or_ge v 4)

  -- the value v is shown
  abbrev shows : ℕ → Bool
  shows v = bit (occurring_in words i) v

  -- "a name is settled when exactly one value occurs"
  pub settled_exactly : (is_settled (occurring_in words i) ≡ true) ↔ ExactlyOne i words
  unfolding is_settled ExactlyOne
  settled_exactly = (
    λ t.
        let e = both_true _ _ t in
        let o = some_in shows (below 4) e.0 in (
          (o.0, (shown_exactly o.0).0 o.2),
          λ u v a b. only u v (every_each _ (below 4) (every_each _ (below 4) e.1 u (of_four u a)) v (of_four v b)) ((shown_exactly u).1 a) ((shown_exactly v).1 b),
        ),
    λ h.
        let v = h.0.0 in
        and_is_true _ _ (in_some shows (below 4) v (of_four v h.0.1) ((shown_exactly v).1 h.0.1))
        (each_every _ (below 4) (λ u m. each_every _ (below 4) (λ v k. alike h.1 u v (shows u) (shows v) refl refl))),
  )
    where
      of_four : (v : ℕ) → Occurs v i words → v ∈ below 4
      of_four v o = below_in 4 v (occurs_lt v i words o)

      only : (u v : ℕ) → not (shows u && shows v) || eqb u v ≡ true → shows u ≡ true → shows v ≡ true → u ≡ v
      only u v t a b = eqb-true u v (rw (a, b) at t)

      alike : ((u v : ℕ) → Occurs u i words → Occurs v i words → u ≡ v) → (u v : ℕ) (a b : Bool) → shows u ≡ a → shows v ≡ b → not (a && b) || eqb u v ≡ true
      alike h u v true true a b = eq-eqb u v (h u v ((shown_exactly u).0 a) ((shown_exactly v).0 b))
      alike h u v true false a b = refl
      alike h u v false y a b = refl

-- ---- the answer as a whole
module _ (p : Program) (words : List ℕ) where
  pub accepted : refusal p words ≡ 0 → summary_of p words ≡ summary_with p.atom_count words
  unfolding summary_of
  accepted z = rw (eq-eqb (refusal p words) 0 z)

  -- "A refused summary shows no value for any name and none settled."
  pub refused : (refusal p words ≡ 0 → ⊥) → summary_of p words ≡ refused_summary (refusal_of (refusal p words))
  unfolding summary_of
  refused h = rw (ne_eqb (refusal p words) 0 h)

  -- an accepted table has at most 12 names
  few_names : refusal p words ≡ 0 → p.atom_count ≤ 12
  unfolding refusal lowest
  few_names z = (valid_names p (go (valid p) (every (is_word p.atom_count) words) z)).few
    where
      go : (v w : Bool) → ◌≡◌ {A = ℕ} (cond (not v) 9 (cond (not w) 10 0)) 0 → v ≡ true
      go true w h = refl
      go false w h = absurd (omega arith)

-- a place where f gives the value of the places behind the last
default_at : {A : Type 0} (f : ℕ → A) (d : A) (m i : ℕ) → f i ≡ d → get_or (tabulate f m) i d ≡ d
default_at f d m i e = ⊎_elim
    (λ (h : i < m). get_d_tabulate f m i d h ∙ e)
    (λ (h : m ≤ i). get_or-eq_default (tabulate f m) d {n = i} (omega (arith, length-tabulate f m)))
    (lt_or_ge i m)

-- the places of a summary over n names
module _ (n : ℕ) (words : List ℕ) where
  shown_at_lem : (i : ℕ) → n ≤ 12 → i < n → get_or (summary_with n words).occurring i 0 ≡ occurring_in words i
  unfolding summary_with shown_at
  shown_at_lem i l h = get_d_tabulate (shown_at n words) 12 i 0 (omega arith) ∙ rw (lt-ltb i n h)

  settled_at_lem : (i : ℕ) → n ≤ 12 → i < n → get_or (summary_with n words).settled i false ≡ is_settled (occurring_in words i)
  unfolding summary_with settled_at
  settled_at_lem i l h = get_d_tabulate (settled_at (tabulate (shown_at n words) 12)) 12 i false (omega arith) ∙ ap is_settled (shown_at_lem i l h)

-- of an empty list no value is shown
empty_at : (n i : ℕ) → shown_at n [] i ≡ 0
unfolding shown_at occurring_in occurs any_of
empty_at n i = ⊎_elim (λ (h : i < n). rw (lt-ltb i n h)) (λ (h : n ≤ i). rw (le-ltb i n h)) (lt_or_ge i n)

-- a place that shows no value is not settled, nor is one behind the last
bare_at : (p : Program) (words : List ℕ) (i : ℕ) → shown_at p.atom_count words i ≡ 0
    → (get_or (summary_of p words).occurring i 0 ≡ 0) × (get_or (summary_of p words).settled i false ≡ false)
unfolding summary_with refused_summary settled_at is_settled any_of below bit
bare_at p words i e =
    let shown = shown_at p.atom_count words in
    let none = default_at shown 0 12 i e in
    ⊎_elim
    (λ z. rw (accepted p words z) (none, default_at (settled_at (tabulate shown 12)) false 12 i (ap is_settled none)))
    (λ f. rw (refused p words f) (filler_at 0 12 i, filler_at false 12 i))
    (same? (refusal p words) 0)

-- a refusal carries its number
number_carried : (p : Program) (words : List ℕ) → (refusal p words ≡ 0 → ⊥) → refused_by (refused_summary (refusal_of (refusal p words))).verdict ≡ refusal p words
unfolding refusal refused_summary rises numbers_known numbered
number_carried p words d = number_lowest (refusals p words) refl refl d

-- ==== the theorem

-- The summary's answer, for every table and every list of words, says what documents 01 and 02 say of it.
pub summary_means : (p : Program) (words : List ℕ) → Means p words (summary_of p words)
unfolding summary_with refused_summary
summary_means p words =
    let n = p.atom_count in
    record {
      accepted = λ z. rw (accepted p words z);
      number = λ f. rw (refused p words f) (number_carried p words f);
      shows = λ z i h v. rw (accepted p words z, shown_at_lem n words i (few_names p words z) h) (shown_exactly words i v);
      settles = λ z i h. rw (accepted p words z, settled_at_lem n words i (few_names p words z) h) (settled_exactly words i);
      empty = λ e i. (bare_at p words i (ap (λ ws. shown_at n ws i) e ∙ empty_at n i)).1;
      no_name = λ i h. bare_at p words i (sym (shown_out n i words h));
      refused = λ f. rw (refused p words f) (refl, refl);
    }
