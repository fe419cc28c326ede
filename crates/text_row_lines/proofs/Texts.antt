-- The text of a table: its rows' lines as pieces, how long it is, and the writer's answers. Assumes nothing.
use Rattle.program.specs.declared.Refusal.TheVariants.{InvalidProgram, SliceTooShort}
use Rattle.std.specs.Prelude.{Ok, Err}
use mathlib.Core.Path.{◌≡◌, ap, ◌∙◌}
use mathlib.Core.Bool.{Bool, true, false, cond}
use mathlib.Core.List.{List, [], ◌∷◌, flat_map}
use Prim.Native.Nat.{ℕ, zero, suc, ◌+◌, ◌*◌, ◌≤◌, ◌<◌}
use native.Mathlib.Omega.{arith}
use lib.ListN.{length, get_or, replicate, length-append, length-replicate}
use borrow.Author.Tests.{lt-ltb, le-ltb}
use Rattle.sets.specs.Lists.{tabulate}
use Rattle.sets.proofs.Lists.{map-up_from}
use Rattle.lists.specs.Bytes.{Wrote}
use Rattle.program.specs.declared.Program.{Program}
use Rattle.program.specs.Clauses.{Clause, clause_at, row_of, row_at, rows}
use Rattle.program.specs.Names.{name_at, names_of}
use Rattle.program.specs.Values.{clause_value, clause_values}
use Rattle.program.specs.Refusals.{lowest, numbered}
use Rattle.program.specs.Valid.{valid, Sized}
use Rattle.program.proofs.Validity.{valid_names, valid_clauses}
use Rattle.program.proofs.Values.{value_lt}
use Rattle.text.specs.Lines.{names_line, values_line}
use Rattle.text.specs.Render.{book_items, book_text, row_numbers, numbers_of, render}
use Rattle.text.specs.Writing.{write_refusal, answer_of, exit_of, Writes}
use Rattle.lines.specs.Laying.{Room}
use Rattle.lines.proofs.Laying.{laid, flat_laid}
use Rattle.lines.proofs.Going.{names_long, values_long}
use Rattle.lines.proofs.Bounds.{laid_most, names-most, row-most, values_most}

-- ---- the lines of the rows
abbrev pub row_line : Program → ℕ → List ℕ
row_line p k = values_line (row_numbers p.dated p.atom_count (row_at p k))

pub rows_laid : (p : Program) → flat_map values_line (numbers_of p) ≡ laid (row_line p) p.clause_count 0
unfolding numbers_of rows tabulate
rows_laid p =
    let f = row_numbers p.dated p.atom_count in
    ap (flat_map values_line) (map-up_from f (row_at p) p.clause_count 0) ∙ flat_laid values_line (λ k. f (row_at p k)) p.clause_count

-- ---- how long the text is: a value has two digits, a day five
clause-most : (c : Clause) (n : ℕ) → 1 ≤ n → length (values_line (clause_values n c)) ≤ 3 * n
unfolding clause_values clause_value
clause-most c n h = row-most (clause_value c) n 1 h (λ i l. omega (arith, value_lt c.head i, value_lt c.body i, value_lt c.naf i))

days-most : (k l : ℕ) → k ≤ 65535 → l ≤ 65535 → length (values_line (k ∷ l ∷ [])) ≤ 12
days-most k l f g = values_most (k ∷ l ∷ []) 4 (omega arith) go
  where
    go : (i : ℕ) → i < 2 → get_or (k ∷ l ∷ []) i 0 < 100000
    go zero h = omega arith
    go (suc zero) h = omega arith
    go (suc (suc i)) h = absurd (omega arith)

cond_most : (t : Bool) (a b : ℕ) → a ≤ b → cond t a 0 ≤ b
cond_most true a b h = h
cond_most false a b h = omega arith

line-most : (c : Clause) (k l n : ℕ) (dated : Bool) → 1 ≤ n → k ≤ 65535 → l ≤ 65535 → length (values_line (row_numbers dated n (row_of c k l))) ≤ 3 * n + 12
line-most c k l n dated h f g =
    omega (arith, values_long c k l n dated h, clause-most c n h, cond_most dated (length (values_line (k ∷ l ∷ []))) 12 (days-most k l f g))

module _ (p : Program) (v : valid p ≡ true) where
  pub text-most : Sized p → length (render p) ≤ 4096
  unfolding render book_text names_of
  text-most z =
      let s = valid_names p v in
      let n = p.atom_count in
      let here : (i : ℕ) → length (row_line p i) ≤ 3 * n + 12 =
      λ i. line-most (clause_at p.heads p.bodies p.nafs i) (get_or p.firsts i 0) (get_or p.lasts i 0) n p.dated s.one_up
      (z.days i).0 (z.days i).1 in
      omega (
        arith,
        length-append (names_line (book_items p.dated (names_of p))) (flat_map values_line (numbers_of p)),
        names_long (name_at p.atom_names) n p.dated s.one_up,
        cond_most p.dated 8 8 (omega arith),
        names-most p.atom_names n s.one_up,
        s.few,
        ap length (rows_laid p),
        laid_most (row_line p) p.clause_count 48 (λ i l. omega (arith, here i, s.few)),
        (valid_clauses p v).short,
      )

  -- room for it
  pub rows_few : p.clause_count ≤ 64
  rows_few = (valid_clauses p v).short

  pub text_room : (xs : List ℕ) → length (render p) ≤ length xs → Room p.atom_count 12 (render p) xs
  text_room xs h = let s = valid_names p v in record { some = s.one_up; few = s.few; room = h }

  pub own_room : Sized p → Room p.atom_count 12 (render p) (replicate 4096 0)
  own_room z = text_room (replicate 4096 0) (omega (arith, text-most z, length-replicate {A = ℕ} 4096 0))

-- ---- the writer's answer
module _ (p : Program) (out : List ℕ) where
  pub writes9 : valid p ≡ false → Writes p out (Err InvalidProgram) out
  unfolding answer_of exit_of write_refusal lowest numbered
  writes9 e = record { answer = rw e; slice = rw e }

  module _ (v : valid p ≡ true) (size : ℕ) (q : size ≡ length (render p)) where
    pub writes13 : length out < size → Writes p out (Err SliceTooShort) out
    unfolding answer_of exit_of write_refusal lowest numbered
    writes13 h = let l = lt-ltb (length out) (length (render p)) (omega arith) in record { answer = rw (v, l); slice = rw (v, l) }

    pub writes : (r : ℕ) (ys : List ℕ) → size ≤ length out → Wrote (render p) out r ys → Writes p out (Ok r) ys
    unfolding answer_of exit_of write_refusal lowest numbered
    writes r ys h w = let l = le-ltb (length out) (length (render p)) (omega arith) in record { answer = rw (v, l) (ap Ok w.size); slice = rw (v, l) w.whole }
