-- Document 02, U5: "One call holds a clause in a separate place of the table". Assumes nothing.
use Rattle.std.specs.Prelude.{true, false}
use Rattle.program.specs.declared.HeldClause.{HeldClause}
use Rattle.program.specs.declared.Program.{Program}
use Rattle.program.specs.Clauses.{Clause, clause_of, Row, row_of}

-- the clause in the separate place, and "its two days"
abbrev pub held_clause : HeldClause → Clause
held_clause h = clause_of h.head h.body h.naf

abbrev pub held_row : HeldClause → Row
held_row h = row_of (held_clause h) h.first h.last

-- the place with a clause in it
abbrev pub in_place : Row → HeldClause
in_place r = record { in_use = true; head = r.clause.head; body = r.clause.body; naf = r.clause.naf; first = r.first; last = r.last }

-- the place with nothing held: "unused places in it hold zero"
abbrev pub nothing_held : HeldClause
nothing_held = record { in_use = false; head = 0; body = 0; naf = 0; first = 0; last = 0 }

-- the table with this in its separate place
unfoldable pub holding : Program → HeldClause → Program
holding p h = record {
  atom_count = p.atom_count;
  atom_names = p.atom_names;
  clause_count = p.clause_count;
  heads = p.heads;
  bodies = p.bodies;
  nafs = p.nafs;
  dated = p.dated;
  firsts = p.firsts;
  lasts = p.lasts;
  held = h;
}

-- the table with nothing held
unfoldable pub released : Program → Program
unfolding holding
released p = holding p nothing_held
