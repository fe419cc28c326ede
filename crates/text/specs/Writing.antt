-- What the writer answers, and what its slice holds then. Assumes nothing.
use Rattle.std.specs.Prelude.{◌≡◌, Bool, not, cond, List, [], ◌∷◌, ℕ, eqb, ltb, length, Result, Ok, Err}
use Rattle.lists.specs.Bytes.{over}
use Rattle.program.specs.declared.Program.{Program}
use Rattle.program.specs.Refusals.{lowest, refusal_of}
use Rattle.program.specs.Valid.{valid}
use Rattle.program.specs.declared.Refusal.{Refusal}
use Rattle.text.specs.Render.{render}

-- the length of the text, or the refusal
abbrev pub Written : Type 0
Written = Result ℕ Refusal

-- the length that an answer gives, "counts are 0" where refused
abbrev pub written_length : Written → ℕ
written_length (Err r) = 0
written_length (Ok n) = n

-- 13. "The writer's slice is shorter than the text."; the writer meets "9 and 13"
abbrev pub write_refusals : Program → List ℕ → List (ℕ × Bool)
write_refusals p out = (9, not (valid p)) ∷ (13, ltb (length out) (length (render p))) ∷ []

unfoldable pub write_refusal : Program → List ℕ → ℕ
write_refusal p out = lowest (write_refusals p out)

-- "Its answer is the text's length in bytes."
unfoldable pub answer_of : Program → List ℕ → Written
answer_of p out = cond (eqb (write_refusal p out) 0) (Ok (length (render p))) (Err (refusal_of (write_refusal p out)))

-- "The writer puts a table's text at the start of a lent slice ..; later bytes are untouched"; a refusal writes no text
unfoldable pub exit_of : Program → List ℕ → List ℕ
exit_of p out = cond (eqb (write_refusal p out) 0) (over (render p) out) out

-- answer and slice are those
pub record Writes (p : Program) (out : List ℕ) (r : Written) (exit : List ℕ) : Type 0 where
  pub answer : r ≡ answer_of p out
  pub slice : exit ≡ exit_of p out
