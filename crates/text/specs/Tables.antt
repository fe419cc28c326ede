-- The table of names and rows. Assumes nothing.
use Rattle.std.specs.Prelude.{Bool, false, ℕ, length, replicate}
use mathlib.Core.List.{List, map, flat_map}
use Rattle.lists.specs.Bytes.{padded}
use Rattle.program.specs.declared.Program.{Program}
use Rattle.program.specs.Clauses.{Row}
use Rattle.program.specs.Held.{nothing_held}

-- names, each in a place of eight bytes
unfoldable pub placed : List (List ℕ) → List ℕ
placed ns = flat_map (padded 8) ns

-- "A table is the read book; unused places in it hold zero.", and nothing is held
-- document 02, U13: "The table notes whether its book was dated."
unfoldable pub table_of : Bool → List (List ℕ) → List Row → Program
table_of dated ns R = record {
  atom_count = length ns;
  atom_names = padded 96 (placed ns);
  clause_count = length R;
  heads = padded 64 (map (λ r. r.clause.head) R);
  bodies = padded 64 (map (λ r. r.clause.body) R);
  nafs = padded 64 (map (λ r. r.clause.naf) R);
  dated = dated;
  firsts = padded 64 (map (λ r. r.first) R);
  lasts = padded 64 (map (λ r. r.last) R);
  held = nothing_held;
}

-- "an all-zero table"
unfoldable pub zero_table : Program
zero_table = record {
  atom_count = 0;
  atom_names = replicate 96 0;
  clause_count = 0;
  heads = replicate 64 0;
  bodies = replicate 64 0;
  nafs = replicate 64 0;
  dated = false;
  firsts = replicate 64 0;
  lasts = replicate 64 0;
  held = nothing_held;
}
