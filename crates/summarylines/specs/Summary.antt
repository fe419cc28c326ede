-- The lines of a summary behind its names line. Assumes nothing.
use Rattle.std.specs.Prelude.{Bool, false, List, ◌++◌, ℕ, ◌/◌, ◌%◌, get_or}
use Rattle.sets.specs.Lists.{tabulate}
use Rattle.lists.specs.Bytes.{one_if}
use Rattle.text.specs.Lines.{values_line}

-- "four lines of 0 and 1 (which names take value 0, 1, 2, 3 in some model)":
-- 1 where the bit that counts k is set in the place i: the bit of the value v counts 2^v
unfoldable pub bit_at : ℕ → List ℕ → ℕ → ℕ
bit_at k shown i = get_or shown i 0 / k % 2

unfoldable pub bits_line : ℕ → List ℕ → ℕ → List ℕ
bits_line k shown n = values_line (tabulate (bit_at k shown) n)

abbrev pub four_lines : List ℕ → ℕ → List ℕ
four_lines shown n = (bits_line 1 shown n ++ bits_line 2 shown n) ++ (bits_line 4 shown n ++ bits_line 8 shown n)

-- "a line of 0 and 1 (settled)": 1 where the place i holds true
unfoldable pub flag_at : List Bool → ℕ → ℕ
flag_at flags i = one_if (get_or flags i false)

unfoldable pub flags_line : List Bool → ℕ → List ℕ
flags_line flags n = values_line (tabulate (flag_at flags) n)
