-- `text_table::put_names` keeps `Naming`: the places of the names so far stand in front, zeros behind them, and with the places of those left they are all. Assumes nothing.
use lib.ListN.{length}
use Rattle.text_table.proofs.Names.{Naming}
use Rattle.text_table.proofs.put_names.Given as goal

abbrev pub invariant-loop-name : goal.invariant-loop-name
invariant-loop-name l = Naming l.initial.out l.line (length l.yielded) l.a l.out
