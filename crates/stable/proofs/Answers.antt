-- What the check answers is so. Assumes nothing.
use Rattle.program.specs.declared.Refusal.TheVariants.{InvalidProgram, OutsideWord}
use Rattle.program.specs.declared.Refusal.{Refusal}
use Rattle.program.proofs.Lowest.{rises, numbers_known, number_lowest}
use Rattle.std.specs.Prelude.{Result, Ok, Err}
use mathlib.Core.Path.{◌≡◌, refl, sym, ◌∙◌, subst, ap}
use mathlib.Core.Logic.{◌↔◌}
use mathlib.Core.Bool.{Bool, true, false, cond, not, ◌&&◌}
use mathlib.Core.List.{List}
use Prim.Native.Nat.{ℕ, ◌≤◌, ◌<◌}
use native.Mathlib.Omega.{arith}
use lib.Dec.{eqb, ltb}
use lib.ListN.{length, get_or}
use borrow.Author.Tests.{ltb-true, ltb-false, le-ltb, eqb-true, eqb-false, eq-eqb, not-true, not-false}
use Rattle.sets.specs.Words.{bit, inside}
use Rattle.sets.specs.Least.{least}
use Rattle.sets.proofs.Tests.{clash, both_true, and_is_true}
use Rattle.sets.proofs.Least.{least_le, least_hit, least_miss}
use Rattle.sets.proofs.Digits.{inside_bits}
use Rattle.program.specs.declared.Program.{Program}
use Rattle.program.specs.Clauses.{Clause, Row, rows, no_row}
use Rattle.program.specs.Days.{of_day, clauses}
use Rattle.program.specs.Values.{is_word}
use Rattle.program.specs.Valid.{valid}
use Rattle.program.specs.Refusals.{lowest, number, refusal_of, numbered}
use Rattle.stable.specs.declared.Checked.{Checked}
use Rattle.stable.specs.declared.Checked.TheVariants.{Violated, Smaller, Stable}
use Rattle.semantics.specs.Definitions.{PStable}
use Rattle.semantics.specs.Interpretations.{rules_of, satisfies, reduct, is_model, smaller, least_smaller, is_stable}
use Rattle.stable.specs.Check.{first_violated, verdict, refusal, answer_of, FirstViolated, LeastSmaller, Says, Checks, refusals}
use Rattle.stable.proofs.Readings.{Satisfies_satisfies, satisfies_Satisfies, is_model_Model, Model_is_model}
use Rattle.stable.proofs.Decides.{stable_PStable, PStable_stable}
use Rattle.stable.proofs.Checking.{counted, model_rows_least}

-- ---- what is violated, what is smaller, what is p-stable
module _ (counts : Row → Bool) (R : List Row) (I : ℕ) where
  at_most_all : first_violated counts R I ≤ length R
  unfolding first_violated
  at_most_all = least_le (λ k. counts (get_or R k no_row) && not (satisfies I (get_or R k no_row).clause)) (length R)

  pub violated_first : first_violated counts R I < length R → FirstViolated counts R I (first_violated counts R I)
  unfolding first_violated
  violated_first h =
      let f : ℕ → Bool = λ k. counts (get_or R k no_row) && not (satisfies I (get_or R k no_row).clause) in
      let b = both_true (counts (get_or R (least f (length R)) no_row)) (not (satisfies I (get_or R (least f (length R)) no_row).clause)) (least_hit f (length R) h) in
      record {
        in_book = h;
        of_day_lem = b.0;
        violated = λ s. clash (satisfies I (get_or R (least f (length R)) no_row).clause) (Satisfies_satisfies I _ s) (not-true _ b.1);
        first = λ i l c. satisfies_Satisfies I (get_or R i no_row).clause (not-false _ (sym (rw c) ∙ least_miss f (length R) i l));
      }

  -- no clause that counts is violated: the word is a model of its reduct
  pub satisfied : length R ≤ first_violated counts R I → is_model (reduct (counted counts R) I) I ≡ true
  satisfied h = sym (model_rows_least counts R I) ∙ eq-eqb _ (length R) (omega (arith, at_most_all))

  pub none-violated : is_model (reduct (counted counts R) I) I ≡ true → first_violated counts R I ≡ length R
  none-violated m = eqb-true _ _ (model_rows_least counts R I ∙ m)

module _ (P : List Clause) (I : ℕ) where
  at_most_I : least_smaller P I ≤ I
  unfolding least_smaller
  at_most_I = least_le (smaller (reduct P I) I) I

  pub smaller-least : is_model (reduct P I) I ≡ true → least_smaller P I < I → LeastSmaller P I (least_smaller P I)
  unfolding least_smaller smaller
  smaller-least m h =
      let f = smaller (reduct P I) I in
      let b = both_true (inside (least f I) I) (is_model (reduct P I) (least f I)) (least_hit f I h) in
      record {
        model = is_model_Model P I I m;
        subset = (inside_bits (least f I) I).0 (eqb-true _ _ b.0);
        proper = h;
        satisfied = is_model_Model P I (least f I) b.1;
        first = λ i l s g. clash (smaller (reduct P I) I i) (and_is_true _ _ (eq-eqb _ _ ((inside_bits i I).1 s)) (Model_is_model P I i g)) (least_miss f I i l);
      }

  pub stable_none : is_model (reduct P I) I ≡ true → I ≤ least_smaller P I → is_stable P I ≡ true
  unfolding is_stable
  stable_none m h = and_is_true _ _ m (eq-eqb (least_smaller P I) I (omega (arith, at_most_I)))

-- ---- every answer says what is so
module _ (p : Program) (d w : ℕ) where
  day_counted : counted (of_day p d) (rows p) ≡ clauses p d
  unfolding clauses
  day_counted = refl

  stable_verdict : is_stable (clauses p d) w ≡ true → verdict (of_day p d) (rows p) (clauses p d) w ≡ Stable
  unfolding is_stable verdict
  stable_verdict h =
      let b = both_true (is_model (reduct (clauses p d) w) w) (eqb (least_smaller (clauses p d) w) w) h in
      let v = none-violated (of_day p d) (rows p) w (rw day_counted b.0) in
      let j = eqb-true (least_smaller (clauses p d) w) w b.1 in
      rw (le-ltb (first_violated (of_day p d) (rows p) w) (length (rows p)) (omega arith), le-ltb (least_smaller (clauses p d) w) w (omega arith))

  verdict-says : refusal p w ≡ 0 → Says p d w (Ok (verdict (of_day p d) (rows p) (clauses p d) w))
  unfolding verdict Says
  verdict-says z = go (ltb (first_violated (of_day p d) (rows p) w) (length (rows p))) (ltb (least_smaller (clauses p d) w) w) refl refl
    where
      model : ltb (first_violated (of_day p d) (rows p) w) (length (rows p)) ≡ false → is_model (reduct (clauses p d) w) w ≡ true
      model e = subst (λ (P : List Clause). is_model (reduct P w) w ≡ true) day_counted (satisfied (of_day p d) (rows p) w (ltb-false _ _ e))

      go : (a b : Bool) → ltb (first_violated (of_day p d) (rows p) w) (length (rows p)) ≡ a → ltb (least_smaller (clauses p d) w) w ≡ b
          → Says p d w (Ok (cond a (Violated (first_violated (of_day p d) (rows p) w)) (cond b (Smaller (least_smaller (clauses p d) w)) Stable)))
      go true b e f = (z, violated_first (of_day p d) (rows p) w (ltb-true _ _ e))
      go false true e f = (z, smaller-least (clauses p d) w (model e) (ltb-true _ _ f))
      go false false e f = (z, stable_PStable (clauses p d) w (stable_none (clauses p d) w (model e) (ltb-false _ _ f)))

  pub answer-says : Says p d w (answer_of p d w)
  unfolding answer_of Says refusal rises numbers_known numbered
  answer-says = go (eqb (refusal p w) 0) refl
    where
      go : (b : Bool) → eqb (refusal p w) 0 ≡ b → Says p d w (cond b (Ok (verdict (of_day p d) (rows p) (clauses p d) w)) (Err (refusal_of (refusal p w))))
      go true e = verdict-says (eqb-true _ _ e)
      go false e = let k = number_lowest (refusals p w) refl refl (eqb-false _ _ e) in (k, λ z. eqb-false _ _ e (sym k ∙ z))

  pub answered : (r : Result Checked Refusal) → r ≡ answer_of p d w → Checks p d w r
  answered r e = record { answer = e; says = subst (λ (a : Result Checked Refusal). Says p d w a) (sym e) answer-says }

  -- "every check answers as before" (document 02, U4): two that meet the contract answer alike, however each walks the subsets
  pub one_answer : (r s : Result Checked Refusal) → Checks p d w r → Checks p d w s → r ≡ s
  one_answer r s c e = c.answer ∙ sym e.answer

  -- the check says stable exactly when Definition 3.1 does of the clauses of the day
  pub stable_exactly : refusal p w ≡ 0 → (answer_of p d w ≡ Ok Stable) ↔ PStable (rules_of (clauses p d)) (bit w)
  unfolding Says answer_of
  stable_exactly z = (
    λ e. (subst (λ (a : Result Checked Refusal). Says p d w a) e answer-says).1,
    λ s. rw z (ap Ok (stable_verdict (PStable_stable (clauses p d) w s))),
  )

  -- ---- the ways that the call returns
  pub no_table : {v : Bool} → v ≡ valid p → not v ≡ true → Checks p d w (Err InvalidProgram)
  unfolding answer_of refusal lowest numbered
  no_table {v} e h = let f : valid p ≡ false = sym e ∙ not-true v h in answered (Err InvalidProgram) (rw f)

  pub no_word : {v b : Bool} → v ≡ valid p → not v ≡ false → b ≡ is_word p.atom_count w → not b ≡ true → Checks p d w (Err OutsideWord)
  unfolding answer_of refusal lowest numbered
  no_word {v} {b} e h f k =
      let g : valid p ≡ true = sym e ∙ not-false v h in
      let l : is_word p.atom_count w ≡ false = sym f ∙ not-true b k in
      answered (Err OutsideWord) (rw (g, l))

  pub checked : {v b : Bool} {r : Checked} → v ≡ valid p → not v ≡ false → b ≡ is_word p.atom_count w → not b ≡ false
      → r ≡ verdict (of_day p d) (rows p) (clauses p d) w → Checks p d w (Ok r)
  unfolding answer_of refusal lowest
  checked {v} {b} {r} e h f k q =
      let g : valid p ≡ true = sym e ∙ not-false v h in
      let l : is_word p.atom_count w ≡ true = sym f ∙ not-false b k in
      answered (Ok r) (rw (g, l) (ap Ok q))
