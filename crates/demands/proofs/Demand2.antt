-- Demand 2, from the round trip and from what the check answers. Assumes nothing.
use Rattle.program.specs.declared.Refusal.{Refusal}
use Rattle.std.specs.Prelude.{Ok, Result}
use mathlib.Core.Path.{◌≡◌, refl, sym, ap, ◌∙◌, subst}
use mathlib.Core.Logic.{◌↔◌, ◌⊎◌, ⊎_elim}
use mathlib.Core.Bool.{Bool, true, false, not}
use mathlib.Core.List.{List, [], ◌∷◌}
use Prim.Native.Nat.{ℕ, ◌≤◌}
use native.Mathlib.Omega.{arith}
use lib.Dec.{eqb, ltb}
use lib.ListN.{length, take, drop}
use lib.Seq.{take_at}
use borrow.Author.Tests.{le-ltb, eqb-true}
use Rattle.sets.specs.Words.{bit}
use Rattle.sets.proofs.Tests.{dec}
use Rattle.lists.specs.Bytes.{over}
use Rattle.program.specs.declared.Program.{Program}
use Rattle.program.specs.Days.{clauses}
use Rattle.program.specs.Held.{released}
use Rattle.program.specs.Values.{is_word}
use Rattle.program.specs.Valid.{valid, Sized}
use Rattle.program.specs.Refusals.{lowest}
use Rattle.text.specs.Lines.{first_items, is_dated}
use Rattle.text.specs.Render.{render}
use Rattle.text.specs.Reading.{Read, read_of, IsAccepted}
use Rattle.text.specs.Writing.{Writes, write_refusal, Written}
use Rattle.text.specs.Writing as writing
use Rattle.text.proofs.RoundTrip as trip
use Rattle.text.proofs.Writings as writings
use Rattle.semantics.specs.Definitions.{PStable}
use Rattle.semantics.specs.Interpretations.{rules_of}
use Rattle.stable.specs.declared.Checked.{Checked}
use Rattle.stable.specs.declared.Checked.TheVariants.{Stable}
use Rattle.stable.specs.Check.{Checks, Says, answer_of, refusal}
use Rattle.stable.proofs.Answers as answers
use Rattle.demands.specs.Demand2.{ReadsExactly, WritesBack, Demand2}

-- ---- reading
is-accepted : (b : List ℕ) (r : Read) → r ≡ read_of b → r.verdict ≡ Ok tt → IsAccepted b
is-accepted b r e a = ap (λ (x : Read). x.verdict) (sym e) ∙ a

exactly : (b : List ℕ) → IsAccepted b → ReadsExactly b (read_of b).program
unfolding is_dated first_items
exactly b a = record {
  dated_read = trip.dated_read b a;
  names_read = trip.items_read b a;
  rows_read = rw (trip.names_read b a) (trip.rows_read b a);
  values_read = rw (trip.names_read b a, trip.dated_read b a) (trip.numbers_read b a);
}

-- ---- writing
-- a table that the reader gave, in a slice with room for its text, is not refused
no_refusal : (p : Program) (out : List ℕ) → valid p ≡ true → length (render p) ≤ length out → write_refusal p out ≡ 0
unfolding write_refusal lowest
no_refusal p out v h = rw (v, le-ltb (length out) (length (render p)) h)

back : (b : List ℕ) → IsAccepted b → (out : List ℕ) (a : Written) (exit : List ℕ) → Writes (read_of b).program out a exit → length b ≤ length out → WritesBack b out a exit
back b z out a exit w h =
    let p = (read_of b).program in
    let same : render p ≡ b = trip.written_back b z in
    let t = writings.accepted p out (no_refusal p out (trip.read_valid b z) (rw same h)) in
    record { length_told = w.answer ∙ t.0 ∙ ap (λ (x : List ℕ). Ok (length x)) same; bytes = w.slice ∙ t.1 ∙ ap (λ (x : List ℕ). over x out) same }

-- what was written has been taken
taken : (p : Program) (out : List ℕ) (n : ℕ) → writing.answer_of p out ≡ Ok n → write_refusal p out ≡ 0
unfolding writing.answer_of
taken p out n e = ⊎_elim
    (λ t. eqb-true (write_refusal p out) 0 t)
    (λ f. absurd (let q = rw f at e in let z : ◌≡◌ {A = ℕ} 0 1 = cc in omega arith))
    (dec (eqb (write_refusal p out) 0))

taken_valid : (p : Program) (out : List ℕ) → write_refusal p out ≡ 0 → valid p ≡ true
unfolding write_refusal lowest
taken_valid p out z = go (valid p) z
  where
    go : (b : Bool) → lowest ((9, not b) ∷ (13, ltb (length out) (length (render p))) ∷ []) ≡ 0 → b ≡ true
    go true e = refl
    go false e = absurd (omega arith)

again : (p : Program) → Sized p → (out : List ℕ) (a : Written) (exit : List ℕ) → Writes p out a exit → (n : ℕ) → a ≡ Ok n
    → read_of (take n exit) ≡ record { verdict = Ok tt; program = released p }
again p s out a exit w n e =
    let z = taken p out n (sym w.answer ∙ e) in
    let t = writings.accepted p out z in
    let size : length (render p) ≡ n = same_length (sym t.0 ∙ sym w.answer ∙ e) in
    let text : take n exit ≡ render p = ap (take n) (w.slice ∙ t.1) ∙ take_at (render p) (drop (length (render p)) out) n size in
    ap read_of text ∙ trip.read_back p s (taken_valid p out z)
  where
    same_length : {x y : ℕ} → ◌≡◌ {A = Result ℕ Refusal} (Ok x) (Ok y) → x ≡ y
    same_length q = cc

-- ---- the check
module _ (p : Program) (d w : ℕ) where
  -- what is not refused is a table that is accepted, and a word over its names
  parts : refusal p w ≡ 0 → (valid p ≡ true) × (is_word p.atom_count w ≡ true)
  unfolding refusal lowest
  parts z = go (valid p) (is_word p.atom_count w) z
    where
      go : (x y : Bool) → lowest ((9, not x) ∷ (10, not y) ∷ []) ≡ 0 → (x ≡ true) × (y ≡ true)
      go true true e = (refl, refl)
      go true false e = absurd (omega arith)
      go false y e = absurd (omega arith)

  whole : valid p ≡ true → is_word p.atom_count w ≡ true → refusal p w ≡ 0
  unfolding refusal lowest
  whole v i = rw (v, i)

  stable : (r : Result Checked Refusal) → Checks p d w r → (r ≡ Ok Stable) ↔ ((valid p ≡ true) × (is_word p.atom_count w ≡ true) × PStable (rules_of (clauses p d)) (bit w))
  unfolding Says
  stable r c = (
    λ e. let s = subst (λ (x : Result Checked Refusal). Says p d w x) e c.says in ((parts s.0).0, (parts s.0).1, s.1),
    λ h. c.answer ∙ (answers.stable_exactly p d w (whole h.0 h.1)).1 h.2,
  )

-- Demand 2.
pub demand_2 : Demand2
demand_2 = record {
  reads = λ b r e a. subst (λ (x : Read). ReadsExactly b x.program) (sym e) (exactly b (is-accepted b r e a));
  writes_back = λ b r e a out n x w h. back b (is-accepted b r e a) out n x (subst (λ (y : Read). Writes y.program out n x) e w) h;
  reads_back = λ p s out a x w n e r q. let f = q ∙ again p s out a x w n e in (ap (λ (y : Read). y.verdict) f, ap (λ (y : Read). y.program) f);
  stable_exactly = stable;
}
