-- How long the lines of a summary are: a names line has up to 108 bytes, a line of 0 and 1 up to 24. Assumes nothing.
use mathlib.Core.Bool.{Bool, true, false}
use mathlib.Core.List.{List, ◌++◌}
use Prim.Native.Nat.{ℕ, ◌≤◌, ◌<◌}
use native.Mathlib.Omega.{arith}
use lib.ListN.{length, get_or, length-append}
use Rattle.sets.specs.Lists.{tabulate}
use Rattle.lists.specs.Bytes.{one_if}
use Rattle.program.specs.Names.{name_at}
use Rattle.text.specs.Lines.{names_line}
use Rattle.lines.proofs.Bounds.{names-most, row-most}
use Rattle.summarylines.specs.Summary.{bit_at, bits_line, four_lines, flag_at, flags_line}

module _ (n : ℕ) (h : 1 ≤ n) (l : n ≤ 12) where
  bits_most : (k : ℕ) (shown : List ℕ) → length (bits_line k shown n) ≤ 24
  unfolding bits_line bit_at
  bits_most k shown = omega (arith, row-most (bit_at k shown) n 0 h (λ i l. omega arith))

  flags_most : (flags : List Bool) → length (flags_line flags n) ≤ 24
  unfolding flags_line flag_at
  flags_most flags = omega (arith, row-most (flag_at flags) n 0 h (λ i l. small (get_or flags i false)))
    where
      small : (b : Bool) → one_if b < 10
      small true = omega arith
      small false = omega arith

  pub summary_most : (ns shown : List ℕ) (flags : List Bool) → length (names_line (tabulate (name_at ns) n) ++ (four_lines shown n ++ flags_line flags n)) ≤ 228
  summary_most ns shown flags = omega (
    arith,
    length-append (names_line (tabulate (name_at ns) n)) (four_lines shown n ++ flags_line flags n),
    length-append (four_lines shown n) (flags_line flags n),
    length-append (bits_line 1 shown n ++ bits_line 2 shown n) (bits_line 4 shown n ++ bits_line 8 shown n),
    length-append (bits_line 1 shown n) (bits_line 2 shown n),
    length-append (bits_line 4 shown n) (bits_line 8 shown n),
    names-most ns n h,
    bits_most 1 shown,
    bits_most 2 shown,
    bits_most 4 shown,
    bits_most 8 shown,
    flags_most flags,
  )
