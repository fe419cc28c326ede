-- How long the lines of models are: a names line has up to 108 bytes, a line of values up to 24. Assumes nothing.
use mathlib.Core.Path.{◌≡◌, refl}
use mathlib.Core.List.{List, [], ◌∷◌, ◌++◌, flat_map}
use Prim.Native.Nat.{ℕ, ◌+◌, ◌*◌, ◌≤◌}
use native.Mathlib.Omega.{arith}
use lib.ListN.{length, take, length-append, length-take}
use Rattle.sets.specs.Lists.{tabulate}
use Rattle.program.specs.declared.Program.{Program}
use Rattle.program.specs.Names.{name_at, names_of}
use Rattle.program.specs.Values.{value_in, word_values}
use Rattle.text.specs.Lines.{names_line, values_line}
use Rattle.program.proofs.Values.{value_lt}
use Rattle.lines.proofs.Bounds.{names-most, row-most}
use Rattle.listings.specs.Listing.{model_lines, listing}

model-most : (w n : ℕ) → 1 ≤ n → n ≤ 12 → length (values_line (word_values n w)) ≤ 24
unfolding word_values
model-most w n h l = omega (arith, row-most (value_in w) n 0 h (λ i k. omega (arith, value_lt w i)))

pub models-most : (n : ℕ) (ws : List ℕ) → 1 ≤ n → n ≤ 12 → length (model_lines n ws) ≤ 24 * length ws
unfolding model_lines flat_map
models-most n [] h l = omega arith
models-most n (w ∷ ws) h l =
    omega (arith, models-most n ws h l, model-most w n h l, length-append (values_line (word_values n w)) (flat_map (λ w. values_line (word_values n w)) ws))

pub listing-most : (ns : List ℕ) (n : ℕ) (ms : List ℕ) (m : ℕ) → 1 ≤ n → n ≤ 12 → length (names_line (tabulate (name_at ns) n) ++ model_lines n (take m ms)) ≤ 108 + 24 * m
listing-most ns n ms m h l =
    omega (arith, length-append (names_line (tabulate (name_at ns) n)) (model_lines n (take m ms)), names-most ns n h, models-most n (take m ms) h l, length-take m ms)

pub listing_is : (p : Program) (ms : List ℕ) (m : ℕ) → names_line (tabulate (name_at p.atom_names) p.atom_count) ++ model_lines p.atom_count (take m ms) ≡ listing p (take m ms)
unfolding listing names_of
listing_is p ms m = refl
