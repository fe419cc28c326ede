-- `rows::weigh` keeps `Weighing`: the tests and words so far are those of the values from `i` on, in front of which the next one comes; three words below 2^24 leave room for it. Assumes nothing.
use Rattle.text_row.proofs.Weighing.{Weighing}
use Rattle.rows.proofs.weigh.Given as goal

abbrev pub invariant-loop-i : goal.invariant-loop-i
invariant-loop-i l = Weighing l.values l.n l.initial.holds l.initial.zero l.i l.holds l.zero l.head l.body l.naf
