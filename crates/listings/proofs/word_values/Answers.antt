-- `listings::word_values`: each place is given by a call. Assumes nothing.
use borrow.Author.Rules.{rules}
use Rattle.program.specs.Values.{value_in}
use Rattle.lines.proofs.Made.{made}
use Rattle.listings.proofs.word_values.Goals as goal

pub returns : goal.returns
returns c = made _ _ (value_in c.args.w) (λ i y q k. search rules) _ 0 12 c.from_fn.ensures.items
