-- `search::search_table` meets its contract: packed, the clauses are the same and have the same columns. Assumes nothing.
use borrow.Author.Rules.{rules}
use Rattle.search.proofs.Returns.{few_clauses, few-atoms, packed_columns, packed_ends}
use Rattle.search.proofs.search_table.Goals as goal

pub columns-columns-requires : goal.columns-columns-requires
columns-columns-requires c = search few_clauses

pub root_rows-root-requires : goal.root_rows-root-requires
root_rows-root-requires c = (search (few_clauses, rules), search few-atoms)

pub search_clauses-requires-clause-count_bound : goal.search_clauses-requires-clause-count_bound
search_clauses-requires-clause-count_bound c = (search few_clauses, search few-atoms)

pub search_clauses-requires-clause-columns : goal.search_clauses-requires-clause-columns
search_clauses-requires-clause-columns c = search packed_columns

pub returns : goal.returns
returns c = search packed_ends
