use borrow.Author.Rules.{rules}
use Rattle.sets.proofs.Digits.{bit_clear, bit_set}
use Rattle.sets.proofs.Gathering.{gather_start, gather_out, gather_in}
use Rattle.columns.proofs.Making.{column_gathered}
use Rattle.search_columns.proofs.column.Goals.{then-words-k-ne0, else-words-k-ne0}
use Rattle.search_columns.proofs.column.Goals as goal

pub loop-k-init : goal.loop-k-init
loop-k-init c = search gather_start

pub loop-k-preserved : goal.loop-k-preserved
loop-k-preserved c = elim c.if-words-k-ne0.branch [
  | then-words-k-ne0 w ↦ rw w.rows-is (search (gather_in, bit_set, rules))
  | else-words-k-ne0 w ↦ rw w.rows-is (search (gather_out, bit_clear, rules))
]

pub returns : goal.returns
returns c = search column_gathered
