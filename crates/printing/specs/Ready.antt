-- What each word is handed. Assumes nothing.
use Rattle.std.specs.Prelude.{◌≡◌, true, List, ℕ, ◌≤◌, length}
use Rattle.program.specs.declared.Program.{Program}
use Rattle.program.specs.Valid.{valid}

-- no printed text is longer
abbrev pub most_bytes : ℕ
most_bytes = 103000

-- a table that 9 does not refuse, and a slice with room for all that is printed
pub record Ready (p : Program) (xs : List ℕ) : Type 0 where
  pub accepted : valid p ≡ true
  pub room : most_bytes ≤ length xs

-- the same, and a list of no more places than one that is lent
pub record ReadyToList (p : Program) (l xs : List ℕ) : Type 0 where
  pub ready : Ready p xs
  pub short : length l ≤ 4096
