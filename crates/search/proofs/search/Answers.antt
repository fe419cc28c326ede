-- `search::search` meets its contract: `no_table` where the table is refused, else `searched`, from what the table of the day's clauses and the run over it ensure. Assumes nothing.
use Rattle.search.proofs.Returns.{day_valid, no_table, searched}
use Rattle.search.proofs.search.Goals as goal

pub returns-then-not-is_valid : goal.returns-then-not-is_valid
returns-then-not-is_valid c = search no_table

pub search_table-requires : goal.search_table-requires
search_table-requires c = search day_valid

pub returns : goal.returns
returns c = search searched
