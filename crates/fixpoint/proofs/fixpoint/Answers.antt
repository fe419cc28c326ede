-- One law for each way out: no table, too many members, and what the fixpoint of the day's table answers. Assumes nothing.
use Rattle.fix_answer.proofs.Answering.{fixed, no_table, too_many, valid-tables}
use Rattle.fixpoint.proofs.fixpoint.Goals as goal

pub returns-then-not-is_valid : goal.returns-then-not-is_valid
returns-then-not-is_valid c = search no_table

pub member_count-requires : goal.member_count-requires
member_count-requires c = search valid-tables

pub returns-then-member_count-gt-MOST_MEMBERS : goal.returns-then-member_count-gt-MOST_MEMBERS
returns-then-member_count-gt-MOST_MEMBERS c = search too_many

pub fix_table-requires : goal.fix_table-requires
fix_table-requires c = search valid-tables

pub returns : goal.returns
returns c = search fixed
