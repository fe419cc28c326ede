-- The lines of models are pieces, laid one behind the other. Assumes nothing.
use mathlib.Core.Path.{◌≡◌, ap, ◌∙◌}
use mathlib.Core.List.{List}
use Prim.Native.Nat.{ℕ, ◌≤◌}
use lib.ListN.{length, get_or, take}
use Rattle.program.specs.Values.{word_values}
use Rattle.text.specs.Lines.{values_line}
use Rattle.lines.proofs.Laying.{laid, flat_laid, firsts}
use Rattle.listings.specs.Listing.{model_lines}

abbrev pub model_at : ℕ → List ℕ → ℕ → List ℕ
model_at n ms k = values_line (word_values n (get_or ms k 0))

pub models_laid : (n : ℕ) (ms : List ℕ) (m : ℕ) → m ≤ length ms → model_lines n (take m ms) ≡ laid (model_at n ms) m 0
unfolding model_lines
models_laid n ms m h = ap (model_lines n) (firsts ms m h) ∙ flat_laid (λ w. values_line (word_values n w)) (λ i. get_or ms i 0) m
