-- What `hold` and `keep` print: that it is the text of the call's answer, and that the table that is kept is ready to be written. Assumes nothing.
use Rattle.held.specs.declared.HoldStatus.{HoldStatus}
use Rattle.std.specs.Prelude.{Ok, Err}
use mathlib.Core.Path.{◌≡◌, sym, ap, ◌∙◌}
use mathlib.Core.List.{List, [], ◌∷◌, ◌++◌, map, flat_map, append-nil, append_assoc}
use Prim.Native.Nat.{ℕ}
use Rattle.lists.specs.Bytes.{join, led, Wrote}
use Rattle.program.specs.declared.Program.{Program}
use Rattle.program.specs.Clauses.{Clause, Row, rows}
use Rattle.program.specs.Names.{names_of}
use Rattle.program.specs.Valid.{valid, Sized}
use Rattle.text.specs.Lines.{line_of, names_line, values_line}
use Rattle.text.specs.Render.{book_items, book_text, row_numbers, numbers_of, render}
use Rattle.wording.specs.Printed.{refused_line}
use Rattle.held.specs.declared.HoldStatus.TheVariants.{New, Equal}
use Rattle.program.specs.declared.Refusal.{Refusal}
use Rattle.program.specs.Refusals.{number}
use Rattle.held.specs.declared.HoldAnswer.{HoldAnswer}
use Rattle.held.specs.declared.ClearAnswer.{ClearAnswer}
use Rattle.held.specs.Holding.{held_as, hold_refusal, hold_of}
use Rattle.held.specs.Clearing.{keep_of}
use Rattle.held.proofs.Laws.{hold-accepted}
use Rattle.held.proofs.Facts as facts
use Rattle.printing.specs.Ready.{Ready}
use Rattle.printing.specs.Texts.{unless_refused}
use Rattle.holding.specs.Texts.{new_word, equal_word, status_line, held_line, hold_text, keep_text}

module _ (s : HoldStatus) (xs : List ℕ) (r : ℕ) (ys : List ℕ) where
  pub says_new : s ≡ New → Wrote (new_word ++ (10 ∷ [])) xs r ys → Wrote (status_line s) xs r ys
  unfolding status_line line_of join led
  says_new t h = rw t h

  pub says-equal : s ≡ Equal → Wrote (equal_word ++ (10 ∷ [])) xs r ys → Wrote (status_line s) xs r ys
  unfolding status_line line_of join led
  says-equal t h = rw t h

module _ (p : Program) (c : Clause) (f l : ℕ) (a : HoldAnswer) (e : a ≡ hold_of p c f l) (xs : List ℕ) where
  pub held-ready : Ready p xs → Ready a.program xs
  held-ready q = record { accepted = ap (λ (x : HoldAnswer). valid x.program) e ∙ facts.hold_valid p c f l q.accepted; room = q.room }

  module _ (r : ℕ) (ys : List ℕ) where
    pub hold_taken : (s : HoldStatus) → a.status ≡ Ok s → Wrote (status_line s) xs r ys → Wrote (hold_text c f l p) xs r ys
    unfolding hold_text held_line
    hold_taken s t h = rw (← e, t) h

    pub hold_refused : (q : Refusal) (k : ℕ) → a.status ≡ Err q → k ≡ number q → Wrote (refused_line k) xs r ys → Wrote (hold_text c f l p) xs r ys
    unfolding hold_text held_line
    hold_refused q k t n h = rw (← e, t, ← n) h

    pub keep_taken : (s : HoldStatus) → a.status ≡ Ok s → Wrote (render (keep_of a.program).program) xs r ys → Wrote (keep_text c f l p) xs r ys
    unfolding keep_text unless_refused
    keep_taken s t h = rw (← e, t) h

    pub keep_refused : (q : Refusal) (k : ℕ) → a.status ≡ Err q → k ≡ number q → Wrote (refused_line k) xs r ys → Wrote (keep_text c f l p) xs r ys
    unfolding keep_text unless_refused
    keep_refused q k t n h = rw (← e, t, ← n) h

module _ (p : Program) (a : ClearAnswer) (e : a ≡ keep_of p) (xs : List ℕ) where
  pub kept-ready : Sized p → Ready p xs → Ready a.program xs
  kept-ready s q = record { accepted = ap (λ (x : ClearAnswer). valid x.program) e ∙ (facts.keep_valid p s q.accepted).0; room = q.room }

  pub kept_wrote : (r : ℕ) (ys : List ℕ) → Wrote (render a.program) xs r ys → Wrote (render (keep_of p).program) xs r ys
  kept_wrote r ys w = rw (← e) w

-- ---- the book with the clause as its last line
-- the lines of some rows and of one more
lines_behind : (g : Row → List ℕ) (R : List Row) (r : Row) → flat_map values_line (map g (R ++ (r ∷ []))) ≡ flat_map values_line (map g R) ++ values_line (g r)
unfolding flat_map
lines_behind g [] r = append-nil (values_line (g r))
lines_behind g (s ∷ R) r = ap (λ (l : List ℕ). values_line (g s) ++ l) (lines_behind g R r) ∙ sym (append_assoc (values_line (g s)) (flat_map values_line (map g R)) (values_line (g r)))

-- Where hold takes the clause, `keep` prints the text of the table and behind it the line of the clause.
pub keep-last_line : (p : Program) → Sized p → (c : Clause) (f l : ℕ) → hold_refusal p c f l ≡ 0
    → keep_text c f l p ≡ render p ++ values_line (row_numbers p.dated p.atom_count (held_as p c f l))
unfolding keep_text unless_refused render book_text numbers_of
keep-last_line p s c f l z =
    let k = facts.hold_then_keep p c f l z s in
    let g = row_numbers p.dated p.atom_count in
    rw (hold-accepted p c f l z, k.atoms, k.dating, k.names, k.all_rows, lines_behind g (rows p) (held_as p c f l))
    (sym (append_assoc (names_line (book_items p.dated (names_of p))) (flat_map values_line (map g (rows p))) (values_line (g (held_as p c f l)))))
