-- `summarizer::occurring_of` meets its contract: each place is given by a call. Assumes nothing.
use borrow.Author.Rules.{rules}
use Rattle.summary.specs.Summary.{shown_at}
use Rattle.summary_values.proofs.Answered.{made}
use Rattle.summarizer.proofs.occurring_of.Goals as goal

pub returns : goal.returns
returns c = made _ _ (shown_at c.args.n c.args.words.now) (λ i y q k. search rules) _ 0 12 c.from_fn.ensures.items
