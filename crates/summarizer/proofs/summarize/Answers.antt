-- `summarizer::summarize` meets its contract: `summary9` and `summary10` where it refuses, else `summary_is`. Assumes nothing.
use Rattle.summary.proofs.Laws.{summary_is, summary10, summary9}
use Rattle.sets.proofs.Tests.{via_true, via_false}
use Rattle.summarizer.proofs.summarize.Goals as goal

pub returns-then-not-is_valid : goal.returns-then-not-is_valid
returns-then-not-is_valid c = search (summary9, via_false)

pub returns-then-not-all_words : goal.returns-then-not-all_words
returns-then-not-all_words c = search (summary10, via_true, via_false)

pub returns : goal.returns
returns c = search (summary_is, via_true)
