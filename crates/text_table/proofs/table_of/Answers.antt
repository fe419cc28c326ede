-- `text_table::table_of` takes its columns from the clause lines, which say what the rows of a text say where no line breaks the form (`table_is`). Assumes nothing.
use Rattle.text_table.proofs.Answers.{table_is}
use Rattle.text_table.proofs.table_of.Goals as goal

pub returns : goal.returns
returns c = search table_is
