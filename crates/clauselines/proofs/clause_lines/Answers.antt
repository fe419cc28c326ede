-- `clauselines::clause_lines` gathers what stands behind the first line: at most 64 lines, of a text with at most 12 names. Assumes nothing.
use borrow.Author.Rules.{rules}
use Rattle.clauselines.proofs.Reading.{names-few, lines-few, clauses_are}
use Rattle.clauselines.proofs.clause_lines.Goals as goal

pub gather-requires : goal.gather-requires
gather-requires c = search (names-few, lines-few, rules)

pub returns : goal.returns
returns c = search clauses_are
