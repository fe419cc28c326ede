-- The lines of a list of models. Assumes nothing.
use mathlib.Core.List.{List, ◌++◌, flat_map}
use Rattle.std.specs.Prelude.{ℕ}
use Rattle.program.specs.declared.Program.{Program}
use Rattle.program.specs.Names.{names_of}
use Rattle.program.specs.Values.{word_values}
use Rattle.text.specs.Lines.{names_line, values_line}

-- "a line of values 0 to 3 for each model"
unfoldable pub model_lines : ℕ → List ℕ → List ℕ
model_lines n ws = flat_map (λ w. values_line (word_values n w)) ws

-- "the names line, a line of values 0 to 3 for each model"
unfoldable pub listing : Program → List ℕ → List ℕ
listing p ws = names_line (names_of p) ++ model_lines p.atom_count ws
