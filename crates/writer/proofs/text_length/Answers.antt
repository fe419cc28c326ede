-- `writer::text_length`: what was written in the room of its own is the text, and its count the text's length. Assumes nothing.
use borrow.Author.Rules.{rules}
use Rattle.program.proofs.Validity.{typed}
use Rattle.text_row_lines.proofs.Texts.{rows_few, own_room}
use Rattle.writer.proofs.text_length.Goals as goal

pub put_text-requires : goal.put_text-requires
put_text-requires c = (search rows_few, own_room _ c.requires (search (typed, rules)))
