-- `text_row_lines::clause_value`: the sum of the three parts' values is the clause's. Assumes nothing.
use borrow.Author.Rules.{rules}
use Rattle.program.specs.Values.{clause_value}
use Rattle.text_row_lines.proofs.clause_value.Goals as goal

pub returns : goal.returns
unfolding clause_value
returns c = search rules
