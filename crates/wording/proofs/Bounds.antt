-- How long a line of a word and numbers is. Assumes nothing.
use Rattle.std.specs.Prelude.{Result, Ok, Err}
use mathlib.Core.Path.{ap}
use mathlib.Core.List.{List, [], ◌∷◌, ◌++◌}
use Prim.Native.Nat.{ℕ, zero, suc, ◌+◌, ◌*◌, ◌^◌, ◌≤◌, ◌<◌}
use native.Mathlib.Omega.{arith}
use lib.ListN.{length, get_or, length-append}
use Rattle.program.specs.declared.Outcome.{Outcome}
use Rattle.program.specs.declared.Outcome.TheVariants as ended
use Rattle.text.specs.Lines.{values_line}
use Rattle.lines.proofs.Bounds.{values_most}
use Rattle.wording.specs.Printed.{refused_word, outcome_word, worded, numbered, refused_line, last_line}
use Rattle.wording.proofs.Words.{worded_is}

worded-most : (w vs : List ℕ) → 1 ≤ length vs → ((i : ℕ) → i < length vs → get_or vs i 0 < 2 ^ 64) → length (worded w vs) ≤ length w + 1 + 21 * length vs
worded-most w vs h d = omega (
  arith,
  ap length (worded_is w vs h),
  length-append (w ++ 32 ∷ []) (values_line vs),
  length-append w (32 ∷ []),
  values_most vs 19 h (λ i l. omega (arith, d i l)),
)

pub numbered-most : (w : List ℕ) (v : ℕ) → v < 2 ^ 64 → length (numbered w v) ≤ length w + 22
unfolding numbered
numbered-most w v h = let q = worded-most w (v ∷ []) (omega arith) each in omega arith
  where
    each : (i : ℕ) → i < 1 → get_or (v ∷ []) i 0 < 2 ^ 64
    each zero l = h
    each (suc i) l = absurd (omega arith)

pub refused-most : (r : ℕ) → r < 2 ^ 64 → length (refused_line r) ≤ 64
unfolding refused_line refused_word
refused-most r h = omega (arith, numbered-most refused_word r h)

pub outcome-most : {R : Type 0} (o : Result Outcome R) → length (outcome_word o) ≤ 8
unfolding outcome_word refused_word
outcome-most (Ok ended.Complete) = omega arith
outcome-most (Ok ended.Full) = omega arith
outcome-most (Ok ended.Spent) = omega arith
outcome-most (Err r) = omega arith

pub last-most : {R : Type 0} (o : Result Outcome R) (m v : ℕ) → m < 2 ^ 64 → v < 2 ^ 64 → length (last_line o m v) ≤ 64
unfolding last_line
last-most o m v h k = let q = worded-most (outcome_word o) (m ∷ v ∷ []) (omega arith) each in omega (arith, outcome-most o)
  where
    each : (i : ℕ) → i < 2 → get_or (m ∷ v ∷ []) i 0 < 2 ^ 64
    each zero l = h
    each (suc zero) l = k
    each (suc (suc i)) l = absurd (omega arith)
