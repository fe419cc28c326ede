-- `text_row::keep` puts the value where there is a place: what is set behind the end of a list leaves it as it is. Assumes nothing.
use mathlib.Core.Path.{sym}
use lib.Seq.{set_out}
use Rattle.text_row.proofs.keep.Goals as goal

pub returns-else-i-values : goal.returns-else-i-values
returns-else-i-values c = sym (set_out _ _ _ c.if-i-values.false)
