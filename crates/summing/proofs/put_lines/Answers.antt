-- `summing::put_lines` meets its contract: the lines of a summary have room. Assumes nothing.
use borrow.Author.Rules.{rules}
use Rattle.summing.proofs.Texts.{summary_fits, lines_wrote}
use Rattle.summing.proofs.put_lines.Goals as goal

pub put_summary-requires : goal.put_summary-requires
put_summary-requires c = search (summary_fits, rules)

pub returns : goal.returns
returns c = search lines_wrote
