-- `text_row_lines::clause_values`: each place is given by a call. Assumes nothing.
use borrow.Author.Rules.{rules}
use Rattle.program.specs.Clauses.{clause_of}
use Rattle.program.specs.Values.{clause_value, clause_values}
use Rattle.lines.proofs.Made.{made}
use Rattle.text_row_lines.proofs.clause_values.Goals as goal

pub returns : goal.returns
unfolding clause_values
returns c = made _ _ (clause_value (clause_of c.args.head c.args.body c.args.naf)) (λ i y q k. search rules) _ 0 12 c.from_fn.ensures.items
