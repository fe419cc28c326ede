-- What `search` is handed where a test of refusal 9 goes through bytes, places or clauses. Assumes nothing.
use borrow.Author.Tests.{eq-eqb, ne_eqb}
use Rattle.lists.proofs.Loops.{loops}
use Rattle.program.proofs.Places.{up_to}
use Rattle.program.proofs.Nine as nine

pub ruleset laws = (
  eq-eqb,
  ne_eqb,
  up_to,
  nine.zero_not,
  nine.zero_done,
  nine.place_at,
  nine.places_same,
  nine.place_is,
  nine.named_is,
  nine.name_at_lem,
  nine.names_none,
  nine.names_many,
  nine.names_are,
  nine.clause_is,
  nine.clauses_many,
  nine.clauses_are,
  nine.used_is,
  nine.unused_is,
  nine.valid_is,
  loops,
)
