-- `reader::read_lines` has a law for each way out: `read_seven`, `read_eight`, `read_reversed` for 22, and `read_table` where no refusal applies. Assumes nothing.
use borrow.Author.Rules.{rules}
use Rattle.text_table.proofs.Answers.{has_line, breaks_or_not, read_seven, read_eight, read_reversed, read_table}
use Rattle.reader.proofs.read_lines.Goals as goal

pub is_dated-dated-requires : goal.is_dated-dated-requires
is_dated-dated-requires c = search has_line

pub returns-then-lines : goal.returns-then-lines
returns-then-lines c = search read_seven

pub returns-then-lines-2 : goal.returns-then-lines-2
returns-then-lines-2 c = search read_eight

pub returns-then-lines-3 : goal.returns-then-lines-3
returns-then-lines-3 c = search read_reversed

pub table_of-program-requires : goal.table_of-program-requires
table_of-program-requires c = search (breaks_or_not, rules)

pub returns : goal.returns
returns c = search read_table
