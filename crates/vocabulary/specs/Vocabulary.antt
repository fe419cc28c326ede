-- The vocabulary of a table's transform. Assumes nothing.
use Rattle.std.specs.Prelude.{ℕ, ◌*◌}
use Rattle.program.specs.declared.Program.{Program}
use Rattle.program.specs.Days.{clauses}
use Rattle.transform.specs.Transform.{members}

-- the literals of its names
abbrev pub literals_of : Program → ℕ
literals_of p = 2 * p.atom_count

-- "The vocabulary has W members: 4n and one for each stand-in."; document 02, U13: "W counts those clauses only", the clauses of the day
unfoldable pub vocabulary : Program → ℕ → ℕ
vocabulary p d = members (literals_of p) (clauses p d)
