-- `summarizer::settled_of` meets its contract: each place is given by a call. Assumes nothing.
use mathlib.Core.Bool.{false}
use borrow.Author.Rules.{rules}
use Rattle.summary.specs.Summary.{settled_at}
use Rattle.summary_values.proofs.Answered.{made}
use Rattle.summarizer.proofs.settled_of.Goals as goal

pub returns : goal.returns
unfolding settled_at
returns c = made _ _ (settled_at c.args.shown.now) (λ i y q k. search rules) _ false 12 c.from_fn.ensures.items
