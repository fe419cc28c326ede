-- `text_row::value_of` hands on what `read_number` gives for its bound: a number up to that bound, which fits, or the one above for none. Assumes nothing.
use native.Mathlib.Omega.{arith}
use Rattle.text_row.proofs.Rows.{value_small, value_is, value_none}
use Rattle.text_row.proofs.value_of.Goals as goal

pub overflow_cast-result : goal.overflow_cast-result
overflow_cast-result c = omega (arith, value_small _ _ _ _ c.read_number.ensures c.in-Some.is)

pub returns-in-Some : goal.returns-in-Some
returns-in-Some c = search value_is

pub returns-in-None : goal.returns-in-None
returns-in-None c = search value_none
