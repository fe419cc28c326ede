-- What `check` prints: the room for it, and that it is the text of the call's answer. Assumes nothing.
use Rattle.program.specs.declared.Refusal.{Refusal}
use Rattle.program.specs.Refusals.{number}
use Rattle.std.specs.Prelude.{Result, Ok, Err}
use mathlib.Core.Path.{◌≡◌}
use mathlib.Core.List.{List, [], ◌∷◌, ◌++◌}
use Prim.Native.Nat.{ℕ, ◌^◌, ◌≤◌, ◌<◌}
use native.Mathlib.Omega.{arith}
use lib.ListN.{length}
use Rattle.lists.specs.Bytes.{join, led, Wrote}
use Rattle.program.specs.declared.Program.{Program}
use Rattle.text.specs.Lines.{line_of}
use Rattle.wording.specs.Printed.{numbered, refused_line}
use Rattle.wording.proofs.Bounds.{numbered-most}
use Rattle.stable.specs.declared.Checked.{Checked}
use Rattle.stable.specs.declared.Checked.TheVariants as found
use Rattle.stable.specs.Check.{Checks}
use Rattle.printing.specs.Ready.{most_bytes}
use Rattle.checking.specs.Texts.{violated_word, smaller_word, stable_word, finding_line, checked_line, check_text}

-- ---- the line of a word and a number
pub numbered_fits : (w : List ℕ) (v : ℕ) (xs : List ℕ) → v < 2 ^ 32 → length w ≤ 20 → most_bytes ≤ length xs → length (numbered w v) ≤ length xs
numbered_fits w v xs h s r = omega (arith, numbered-most w v (omega arith))

-- ---- the check
module _ (c : Checked) (xs : List ℕ) (r : ℕ) (ys : List ℕ) where
  pub finds-violated : (k : ℕ) → c ≡ found.Violated k → Wrote (numbered violated_word k) xs r ys → Wrote (finding_line c) xs r ys
  unfolding finding_line
  finds-violated k e h = rw e h

  pub finds-smaller : (j : ℕ) → c ≡ found.Smaller j → Wrote (numbered smaller_word j) xs r ys → Wrote (finding_line c) xs r ys
  unfolding finding_line
  finds-smaller j e h = rw e h

  pub finds_stable : c ≡ found.Stable → Wrote (stable_word ++ (10 ∷ [])) xs r ys → Wrote (finding_line c) xs r ys
  unfolding finding_line line_of join led
  finds_stable e h = rw e h

module _ (p : Program) (t w : ℕ) (c : Result Checked Refusal) (s : Checks p t w c) (xs : List ℕ) (r : ℕ) (ys : List ℕ) where
  pub check_refused : (q : Refusal) (k : ℕ) → c ≡ Err q → k ≡ number q → Wrote (refused_line k) xs r ys → Wrote (check_text t w p) xs r ys
  unfolding check_text checked_line
  check_refused q k e n h = rw (← s.answer, e, ← n) h

  pub check_found : (d : Checked) → c ≡ Ok d → Wrote (finding_line d) xs r ys → Wrote (check_text t w p) xs r ys
  unfolding check_text checked_line
  check_found d e h = rw (← s.answer, e) h
