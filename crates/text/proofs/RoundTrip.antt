-- What a text is read as, and the round trip, both ways: what is read is what is written. Assumes nothing.
use Rattle.program.proofs.Lowest.{rises, numbers_known, number_lowest}
use Rattle.std.specs.Prelude.{Ok, Err}
use mathlib.Core.Path.{◌≡◌, refl, sym, ap, ap₂, ◌∙◌, fun_ext}
use mathlib.Core.Bool.{true, false, cond}
use mathlib.Core.Logic.{◌↔◌, ⊎_elim}
use mathlib.Core.List.{List, [], ◌∷◌, ◌++◌, map}
use Prim.Native.Nat.{ℕ}
use lib.Dec.{eqb}
use lib.ListN.{length}
use borrow.Author.Tests.{eq-eqb, ne_eqb, eqb-true}
use Rattle.sets.specs.Lists.{tabulate}
use Rattle.sets.proofs.Tests.{dec, clash}
use Rattle.program.specs.declared.Program.{Program}
use Rattle.program.specs.Clauses.{Clause, Row, rows}
use Rattle.program.specs.Held.{nothing_held, released}
use Rattle.program.specs.Names.{names_of}
use Rattle.program.specs.Values.{clause_values, sum_for}
use Rattle.program.specs.Valid.{held_valid, valid, Sized}
use Rattle.program.proofs.Validity.{valid_held, valid-split, released_same}
use Rattle.program.proofs.Values.{value_sum}
use Rattle.text.specs.Lines.{first_items, is_dated, names, clause_lines, row}
use Rattle.text.specs.Tables.{table_of, zero_table}
use Rattle.text.specs.Render.{book_items, row_numbers, numbers_of, render}
use Rattle.text.specs.Refusals.{refusal, refusals}
use Rattle.text.specs.Reading.{row_of_numbers, program_of, read_of, IsAccepted}
use Rattle.program.specs.Refusals.{number, refused_by, refusal_of, numbered}
use Rattle.text.proofs.Books.{items_back, text_back, dated-again, names-again, rows-again}
use Rattle.text.proofs.Tables.{names_of_table, rows_of_table, all_numbers, numbers_of_table, names_long, table_back, rows_back, good_table, valid_with, sized_with}
use Rattle.text.proofs.Accepts.{accept_text, good_read}

-- ---- the verdict is the refusal's number, and an accepted text comes with its table
carried : (b : List ℕ) → (refusal b ≡ 0 → ⊥) → number (refusal_of (refusal b)) ≡ refusal b
unfolding refusal rises numbers_known numbered
carried b h = number_lowest (refusals b) refl refl h

pub refused_by_lem : (b : List ℕ) → refused_by (read_of b).verdict ≡ refusal b
unfolding read_of
refused_by_lem b = ⊎_elim
    (λ t. rw t (sym (eqb-true (refusal b) 0 t)))
    (λ f. rw f (carried b (λ z. clash (eqb (refusal b) 0) (eq-eqb (refusal b) 0 z) f)))
    (dec (eqb (refusal b) 0))

pub cleared : (b : List ℕ) → IsAccepted b → refusal b ≡ 0
cleared b a = sym (refused_by_lem b) ∙ ap refused_by a

pub taken : (b : List ℕ) → refusal b ≡ 0 → read_of b ≡ record { verdict = Ok tt; program = program_of b }
unfolding read_of
taken b z = rw (eq-eqb (refusal b) 0 z)

-- "A refusal carries its number; the reader's comes with an all-zero table"
pub refused : (b : List ℕ) → (refusal b ≡ 0 → ⊥) → (read_of b ≡ record { verdict = Err (refusal_of (refusal b)); program = zero_table }) × (number (refusal_of (refusal b)) ≡ refusal b)
unfolding read_of
refused b h = (rw (ne_eqb (refusal b) 0 h), carried b h)

accepted : (b : List ℕ) → refusal b ≡ 0 → IsAccepted b
accepted b z = ap (λ r. r.verdict) (taken b z)

program_is : (b : List ℕ) → refusal b ≡ 0 → (read_of b).program ≡ program_of b
program_is b z = ap (λ r. r.program) (taken b z)

-- ---- the steps
read_names : (b : List ℕ) → refusal b ≡ 0 → names_of (program_of b) ≡ names b
unfolding program_of
read_names b z = names_of_table (is_dated b) (names b) (map (row_of_numbers (length (names b))) (map row (clause_lines b))) (good_read b z).named

read_numbers : (b : List ℕ) → refusal b ≡ 0 → numbers_of (program_of b) ≡ map row (clause_lines b)
unfolding program_of
read_numbers b z = numbers_of_table (is_dated b) (names b) (map row (clause_lines b)) (good_read b z).ruled

read-dated : (b : List ℕ) → (program_of b).dated ≡ is_dated b
unfolding program_of table_of
read-dated b = refl

render_read : (b : List ℕ) → refusal b ≡ 0 → render (program_of b) ≡ b
unfolding render
render_read b z = rw (read_names b z, read_numbers b z, read-dated b) (text_back b z)

accept_render : (p : Program) → Sized p → valid p ≡ true → refusal (render p) ≡ 0
unfolding render
accept_render p s v = accept_text p.dated (names_of p) (numbers_of p) (good_table p s v)

read-render : (p : Program) → Sized p → valid p ≡ true → program_of (render p) ≡ released p
unfolding program_of render
read-render p s v =
    let g = good_table p s v in
    rw (
      dated-again p.dated (names_of p) (numbers_of p) g.named g.any g.ending,
      names-again p.dated (names_of p) (numbers_of p) g.named g.any g.ending,
      rows-again p.dated (names_of p) (numbers_of p) g.named (length (names_of p)) g.any g.ruled,
      names_long p,
      rows_back p s v,
    )
    (table_back p s v)

valid_read : (b : List ℕ) → refusal b ≡ 0 → valid (program_of b) ≡ true
unfolding program_of
valid_read b z = valid_with (is_dated b) (names b) (map row (clause_lines b)) (good_read b z)

bare_read : (b : List ℕ) → (program_of b).held ≡ nothing_held
unfolding program_of table_of
bare_read b = refl

sized_read : (b : List ℕ) → refusal b ≡ 0 → Sized (program_of b)
unfolding program_of
sized_read b z = sized_with (is_dated b) (names b) (map row (clause_lines b)) (good_read b z)

-- the values of a clause are its sums over membership
values_sums : (n : ℕ) → clause_values n ≡ (λ c. tabulate (sum_for c) n)
unfolding clause_values
values_sums n = fun_ext (λ (c : Clause). ap (λ (f : ℕ → ℕ). tabulate f n) (fun_ext (value_sum c)))

-- ==== the theorems

-- The names of the table that an accepted text is read as are the items of its first line, but for the "from to" of a dated book.
pub names_read : (b : List ℕ) → IsAccepted b → names_of (read_of b).program ≡ names b
names_read b a = let z = cleared b a in ap names_of (program_is b z) ∙ read_names b z

-- Document 02, U13: "The table notes whether its book was dated."
pub dated_read : (b : List ℕ) → IsAccepted b → (read_of b).program.dated ≡ is_dated b
dated_read b a = ap (λ q. q.dated) (program_is b (cleared b a)) ∙ read-dated b

-- With the "from to" of a dated book behind them, its names are the items of the first line.
pub items_read : (b : List ℕ) → IsAccepted b → book_items (read_of b).program.dated (names_of (read_of b).program) ≡ first_items b
unfolding names is_dated
items_read b a = rw (dated_read b a, names_read b a) (items_back (first_items b))

-- Its rows are the further lines, each read by its numbers.
pub rows_read : (b : List ℕ) → IsAccepted b → rows (read_of b).program ≡ map (row_of_numbers (length (names b))) (map row (clause_lines b))
unfolding program_of
rows_read b a = ap rows (program_is b (cleared b a)) ∙ rows_of_table (is_dated b) (names b) (map (row_of_numbers (length (names b))) (map row (clause_lines b)))

-- The numbers on those lines are the sums, for each clause and name, over where the name stands, and in a dated book the first day and the last behind them.
pub numbers_read : (b : List ℕ) → IsAccepted b
    → map row (clause_lines b) ≡ map (λ r. tabulate (sum_for r.clause) (length (names b)) ++ cond (is_dated b) (r.first ∷ r.last ∷ []) []) (rows (read_of b).program)
unfolding row_numbers
numbers_read b a =
    let vss = map row (clause_lines b) in
    let n = length (names b) in
    sym (all_numbers (is_dated b) n vss (good_read b (cleared b a)).ruled)
    ∙ ap₂ (λ (f : Clause → List ℕ) (R : List Row). map (λ r. f r.clause ++ cond (is_dated b) (r.first ∷ r.last ∷ []) []) R) (values_sums n) (sym (rows_read b a))

-- What a text is read as holds no clause, accepted or not.
pub read_bare : (b : List ℕ) → (read_of b).program.held ≡ nothing_held
unfolding read_of zero_table
read_bare b = ⊎_elim (λ t. rw t (bare_read b)) (λ f. rw f) (dec (eqb (refusal b) 0))

-- What an accepted text is read as is valid.
pub read_valid : (b : List ℕ) → IsAccepted b → valid (read_of b).program ≡ true
read_valid b a = let z = cleared b a in ap valid (program_is b z) ∙ valid_read b z

pub read_sized : (b : List ℕ) → IsAccepted b → Sized (read_of b).program
read_sized b a = let z = cleared b a in rw (program_is b z) (sized_read b z)

-- An accepted text is the text of the program that it is read as, byte for byte.
pub written_back : (b : List ℕ) → IsAccepted b → render (read_of b).program ≡ b
written_back b a = let z = cleared b a in ap render (program_is b z) ∙ render_read b z

-- The text of a valid program is accepted, and is read as just that program, with nothing held.
-- Document 02, U5: "Reading a written table therefore gives it without the held clause."
pub read_back : (p : Program) → Sized p → valid p ≡ true → read_of (render p) ≡ record { verdict = Ok tt; program = released p }
read_back p s v = taken (render p) (accept_render p s v) ∙ ap (λ q. record { verdict = Ok tt; program = q }) (read-render p s v)

-- A text is accepted exactly when it is the text of some valid program.
pub accepted_exactly : (b : List ℕ) → IsAccepted b ↔ ((p : Program) × Sized p × (valid p ≡ true) × (render p ≡ b))
accepted_exactly b = (
  λ a. let z = cleared b a in (program_of b, sized_read b z, valid_read b z, render_read b z),
  λ w. accepted b (ap refusal (sym w.3) ∙ accept_render w.0 w.1 w.2),
)

-- A table is valid and holds nothing exactly when the reader can give it.
pub given_exactly : (p : Program) → Sized p → ((valid p ≡ true) × (p.held.in_use ≡ false)) ↔ ((b : List ℕ) × IsAccepted b × ((read_of b).program ≡ p))
given_exactly p s = (
  λ v. let z = accept_render p s v.0 in
      (render p, accepted (render p) z, program_is (render p) z ∙ read-render p s v.0 ∙ released_same p v.0 v.1),
  λ w. (ap valid (sym w.2) ∙ read_valid w.0 w.1, ap (λ q. q.held.in_use) (sym w.2) ∙ ap (λ h. h.in_use) (read_bare w.0)),
)

-- A table is valid exactly when the reader can give it as it is with nothing held, and what it holds may be held.
pub valid_exactly : (p : Program) → Sized p
    → (valid p ≡ true) ↔ (((b : List ℕ) × IsAccepted b × ((read_of b).program ≡ released p)) × (held_valid p.dated p.held p.clause_count p.atom_count ≡ true))
valid_exactly p s = (
  λ v. (let z = accept_render p s v in (render p, accepted (render p) z, program_is (render p) z ∙ read-render p s v), valid_held p v),
  λ w. valid-split p ∙ rw (ap valid (sym w.0.2) ∙ read_valid w.0.0 w.0.1, w.1),
)

-- Two texts that are read as the same program are equal.
pub read_one_to_one : (b c : List ℕ) → IsAccepted b → IsAccepted c → (read_of b).program ≡ (read_of c).program → b ≡ c
read_one_to_one b c a d e = sym (written_back b a) ∙ ap render e ∙ written_back c d
