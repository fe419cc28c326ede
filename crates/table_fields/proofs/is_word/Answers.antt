-- `table_fields::is_word` meets its contract: from 16 atoms on every word of 32 bits passes (`every_word`), and below the shift is exact (`word_below`). Assumes nothing.
use Rattle.program.proofs.Places.{every_word, word_below}
use Rattle.table_fields.proofs.is_word.Goals as goal

pub returns-then-n-ge16 : goal.returns-then-n-ge16
returns-then-n-ge16 c = search every_word

pub returns : goal.returns
returns c = search word_below
