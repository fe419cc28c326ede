-- `summarizer::refused` meets its contract: arrays of zeros are the definition's. Assumes nothing.
use Rattle.summary.specs.Summary.{refused_summary}
use borrow.Author.Rules.{rules}
use Rattle.summarizer.proofs.refused.Goals as goal

pub returns : goal.returns
unfolding refused_summary
returns c = search rules
