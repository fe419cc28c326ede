-- `summing::put_summary` meets its contract: the summary is of the words that the search wrote. Assumes nothing.
use borrow.Author.Rules.{rules}
use Rattle.searching.proofs.Texts.{written_here, written_long}
use Rattle.summing.proofs.Texts.{summary_wrote}
use Rattle.summing.proofs.put_summary.Goals as goal

pub slice_bounds-models-end : goal.slice_bounds-models-end
slice_bounds-models-end c = search (written_here, rules)

pub slice_bounds-put_summarized-end : goal.slice_bounds-put_summarized-end
slice_bounds-put_summarized-end c = search (written_long, rules)

pub returns : goal.returns
returns c = search summary_wrote
