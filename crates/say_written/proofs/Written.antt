-- What `write` prints: with room for it, the writer never refuses a table that 9 does not refuse. Assumes nothing.
use Rattle.text.specs.Writing.{Written}
use Rattle.program.specs.declared.Refusal.{Refusal}
use Rattle.std.specs.Prelude.{Ok, Err}
use mathlib.Core.Path.{◌≡◌, sym, ap, ◌∙◌}
use mathlib.Core.List.{List}
use Prim.Native.Nat.{ℕ}
use native.Mathlib.Omega.{arith}
use lib.ListN.{length}
use borrow.Author.Tests.{le-ltb}
use Rattle.lists.specs.Bytes.{Wrote}
use Rattle.program.specs.declared.Program.{Program}
use Rattle.program.specs.Refusals.{lowest}
use Rattle.program.specs.Valid.{Sized}
use Rattle.text.specs.Render.{render}
use Rattle.text.specs.Writing as writing
use Rattle.text_row_lines.proofs.Texts.{text-most}
use Rattle.printing.specs.Ready.{Ready}

module _ (p : Program) (xs : List ℕ) (q : Ready p xs) (w : Written) (ys : List ℕ) (s : writing.Writes p xs w ys) (z : Sized p) where
  taken : writing.write_refusal p xs ≡ 0
  unfolding writing.write_refusal lowest
  taken = rw (q.accepted, le-ltb (length xs) (length (render p)) (omega (arith, text-most p q.accepted z, q.room)))

  pub text_wrote : (r : ℕ) → w ≡ Ok r → Wrote (render p) xs r ys
  unfolding writing.answer_of writing.exit_of
  text_wrote r t =
      let e : Ok r ≡ Ok (length (render p)) = sym t ∙ s.answer ∙ rw taken in
      record { size = ap writing.written_length e; whole = s.slice ∙ rw taken }

  pub never_refused : (q : Refusal) → w ≡ Err q → (r : ℕ) → Wrote (render p) xs r ys
  unfolding writing.answer_of
  never_refused q t r = absurd (
      let e : ◌≡◌ {A = Written} (Err q) (Ok (length (render p))) = sym t ∙ s.answer ∙ rw taken in
      let z : ◌≡◌ {A = ℕ} 0 1 = cc in
      omega arith)
