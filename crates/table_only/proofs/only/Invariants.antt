-- `table_only::only` meets its contract: below k what is chosen is picked, in each of the five columns. Assumes nothing.
use Rattle.program.proofs.Picking.{Picking}
use Rattle.table_only.proofs.only.Given as goal

abbrev pub invariant-loop-k : goal.invariant-loop-k
invariant-loop-k l = record {
  heads : Picking l.p.heads l.rows l.p.clause_count l.k l.at l.heads;
  bodies : Picking l.p.bodies l.rows l.p.clause_count l.k l.at l.bodies;
  nafs : Picking l.p.nafs l.rows l.p.clause_count l.k l.at l.nafs;
  firsts : Picking l.p.firsts l.rows l.p.clause_count l.k l.at l.firsts;
  lasts : Picking l.p.lasts l.rows l.p.clause_count l.k l.at l.lasts;
}
