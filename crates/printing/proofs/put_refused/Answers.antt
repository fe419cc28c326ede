-- `printing::put_refused`: the line of a refusal has room. Assumes nothing.
use borrow.Author.Rules.{rules}
use Rattle.printing.proofs.Texts.{refused_fits}
use Rattle.printing.proofs.put_refused.Goals as goal

pub put_refused_line-requires : goal.put_refused_line-requires
put_refused_line-requires c = search (refused_fits, rules)
