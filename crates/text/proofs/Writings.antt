-- What the writer answers where it refuses, and where not. Assumes nothing.
use Rattle.std.specs.Prelude.{Ok, Err}
use Rattle.program.specs.Refusals.{number, numbered, refusal_of}
use Rattle.program.proofs.Lowest.{rises, numbers_known, number_lowest}
use mathlib.Core.Path.{◌≡◌, refl}
use mathlib.Core.List.{List}
use Prim.Native.Nat.{ℕ}
use lib.ListN.{length}
use borrow.Author.Tests.{eq-eqb, ne_eqb}
use Rattle.lists.specs.Bytes.{over}
use Rattle.program.specs.declared.Program.{Program}
use Rattle.text.specs.Render.{render}
use Rattle.text.specs.Writing.{write_refusals, write_refusal, answer_of, exit_of}

module _ (p : Program) (out : List ℕ) where
  -- where no refusal applies, the answer is the text's length, and the text stands at the start of the slice
  pub accepted : write_refusal p out ≡ 0 → (answer_of p out ≡ Ok (length (render p))) × (exit_of p out ≡ over (render p) out)
  unfolding answer_of exit_of
  accepted z = (rw (eq-eqb (write_refusal p out) 0 z), rw (eq-eqb (write_refusal p out) 0 z))

  carried : (write_refusal p out ≡ 0 → ⊥) → number (refusal_of (write_refusal p out)) ≡ write_refusal p out
  unfolding write_refusal rises numbers_known numbered
  carried h = number_lowest (write_refusals p out) refl refl h

  -- "A refusal carries its number", and writes no text
  pub refused : (write_refusal p out ≡ 0 → ⊥) → (answer_of p out ≡ Err (refusal_of (write_refusal p out))) × (exit_of p out ≡ out) × (number (refusal_of (write_refusal p out)) ≡ write_refusal p out)
  unfolding answer_of exit_of
  refused h = (rw (ne_eqb (write_refusal p out) 0 h), rw (ne_eqb (write_refusal p out) 0 h), carried h)
