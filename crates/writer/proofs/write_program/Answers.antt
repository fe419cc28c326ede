-- `writer::write_program`: a law for each way out, `writes9`, `writes13` and `writes`, whose premises are what the tests and the callees give. Assumes nothing.
use native.Mathlib.Omega.{arith}
use Rattle.sets.proofs.Tests.{via_true, via_false}
use Rattle.text_row_lines.proofs.Texts.{text_room, rows_few, writes9, writes13, writes}
use Rattle.writer.proofs.write_program.Goals as goal

pub returns-then-not-is_valid : goal.returns-then-not-is_valid
returns-then-not-is_valid c = search (writes9, via_false)

pub text_length-requires : goal.text_length-requires
text_length-requires c = search via_true

pub returns-then-out-text_length : goal.returns-then-out-text_length
returns-then-out-text_length c = search (writes13, via_true)

pub put_text-requires : goal.put_text-requires
put_text-requires c = (search (rows_few, via_true), text_room _ (search via_true) _ (omega arith))

pub returns : goal.returns
returns c = search (writes, via_true)
