-- `summarylines::bits_of`: each place is given by a call. Assumes nothing.
use borrow.Author.Rules.{rules}
use Rattle.lines.proofs.Made.{made}
use Rattle.summarylines.specs.Summary.{bit_at}
use Rattle.summarylines.proofs.bits_of.Goals as goal

pub returns : goal.returns
unfolding bit_at
returns c = made _ _ (bit_at c.args.k c.args.shown.now) (λ i y q k. search rules) _ 0 12 c.from_fn.ensures.items
