use borrow.Author.Rules.{rules}
use Rattle.text_row.proofs.Weighing.{weigh_start, weigh_more, weigh_done}
use Rattle.rows.proofs.weigh.Goals as goal

pub loop-i-init : goal.loop-i-init
loop-i-init c = search weigh_start

pub loop-i-preserved : goal.loop-i-preserved
loop-i-preserved c = search (weigh_more, rules)

pub returns : goal.returns
returns c = search weigh_done
