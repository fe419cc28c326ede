-- `summarylines::ones_of`: each place is given by a call. Assumes nothing.
use borrow.Author.Rules.{rules}
use Rattle.lines.proofs.Made.{made}
use Rattle.summarylines.specs.Summary.{flag_at}
use Rattle.summarylines.proofs.ones_of.Goals as goal

pub returns : goal.returns
unfolding flag_at
returns c = made _ _ (flag_at c.args.flags.now) (λ i y q k. search rules) _ 0 12 c.from_fn.ensures.items
