-- `reader::read_program`: `read-early` for 1 to 6, else the lines decide. Assumes nothing.
use Rattle.text_table.proofs.Answers.{none, read-early}
use Rattle.reader.proofs.read_program.Goals as goal

pub read_lines-requires : goal.read_lines-requires
read_lines-requires c = search (none, c.in-Ok.ensures)

pub returns-in-Err : goal.returns-in-Err
returns-in-Err c = search (read-early, c.in-Err.ensures)
