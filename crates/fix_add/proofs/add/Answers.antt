-- `fix_add::add` meets its contract: each of the four ways, present, put in, too many, merged, is a law on the runs. Assumes nothing.
use Rattle.rising.proofs.Adding.{adding, added_behind, added_over, added_merged}
use Rattle.fix_add.proofs.add.Goals as goal
use Rattle.fix_add.proofs.add.Goals.{then-t-ge256+then-m-t, else-t-ge256, else-t-ge256-via-then-t-ge256+else-m-t, else-t-ge256-via-else-t-ge256}

pub holds-requires : goal.holds-requires
holds-requires c = search adding

pub returns-then-holds : goal.returns-then-holds
returns-then-holds c = search adding

pub insert_behind-t-requires : goal.insert_behind-t-requires
insert_behind-t-requires c = search adding

pub merge-requires : goal.merge-requires
merge-requires c = search adding

pub returns : goal.returns
returns c = elim c.if-t-ge256.branch [
  | then-t-ge256+then-m-t w ↦ rw w.set-is (search added_merged)
  | else-t-ge256 w ↦ rw w.set-is (elim w.else-t-ge256.branch [
    | else-t-ge256-via-then-t-ge256+else-m-t w' ↦ search added_over
    | else-t-ge256-via-else-t-ge256 w' ↦ search added_behind
  ])
]
