-- `reader::atom_count` counts the spaces before the names' end, one less than the names. Assumes nothing.
use native.Mathlib.Omega.{arith}
use lib.ListN.{length-take}
use Rattle.text_table.proofs.Answers.{has_line, names-counted}
use Rattle.reader.proofs.atom_count.Goals as goal

pub names_end-e-requires : goal.names_end-e-requires
names_end-e-requires c = search has_line

pub overflow_add-result : goal.overflow_add-result
overflow_add-result c = omega (arith, length-take c.names_end-e.result c.args.text.now)

pub returns : goal.returns
returns c = search names-counted
