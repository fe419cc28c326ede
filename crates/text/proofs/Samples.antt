-- The short books are read as their table says. Assumes nothing.
use mathlib.Core.Path.{◌≡◌, refl}
use mathlib.Core.List.{map, flat_map}
use Rattle.sets.specs.Lists.{every, any_of}
use Rattle.sets.specs.Least.{least}
use Rattle.lists.specs.Bytes.{pieces, ended, distinct}
use Rattle.decimal.specs.Decimal.{number_of}
use Rattle.program.specs.Names.{is_name, ends_dated}
use Rattle.program.specs.Refusals.{lowest}
use Rattle.text.specs.Lines.{names_line, values_line, first_items, is_dated, names, clause_lines, value_of, row}
use Rattle.text.specs.Refusals.{wrong_size, unended, is_foreign, has_foreign, too_many_lines, names_broken, names_equal, is_row, clause_broken, only_zeros, days_reversed, refusal}
use Rattle.text.specs.Samples.{sample, samples, text_of}

-- all at once, by computation
pub samples-hold : map (λ s. sample s.items s.lines (is_dated (text_of s)) (names (text_of s)) (refusal (text_of s))) samples ≡ samples
unfolding samples every any_of least pieces ended distinct number_of is_name ends_dated lowest names_line values_line first_items is_dated names clause_lines value_of row
    wrong_size unended is_foreign has_foreign too_many_lines names_broken names_equal is_row clause_broken only_zeros days_reversed refusal flat_map
samples-hold = refl
