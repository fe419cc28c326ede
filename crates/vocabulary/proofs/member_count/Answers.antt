-- W is the literals, K of each and the stand-ins of all clauses. Assumes nothing.
use Rattle.vocabulary.proofs.Counting.{columns, counted, names-few}
use Rattle.vocabulary.proofs.member_count.Goals as goal

pub literal_count-m-requires : goal.literal_count-m-requires
literal_count-m-requires c = search names-few

pub count_stand_ins-stands-requires : goal.count_stand_ins-stands-requires
count_stand_ins-stands-requires c = search columns

pub returns : goal.returns
returns c = search counted
