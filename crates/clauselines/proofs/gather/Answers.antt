use Rattle.clauselines.proofs.Gathering.{gather_start, gather_room, gather_more, gather_done}
use Rattle.clauselines.proofs.gather.Goals as goal

pub loop-e-init : goal.loop-e-init
loop-e-init c = search gather_start

pub bounds-heads-count : goal.bounds-heads-count
bounds-heads-count c = search gather_room

pub bounds-bodies-count : goal.bounds-bodies-count
bounds-bodies-count c = search gather_room

pub bounds-nafs-count : goal.bounds-nafs-count
bounds-nafs-count c = search gather_room

pub bounds-firsts-count : goal.bounds-firsts-count
bounds-firsts-count c = search gather_room

pub bounds-lasts-count : goal.bounds-lasts-count
bounds-lasts-count c = search gather_room

pub loop-e-preserved : goal.loop-e-preserved
loop-e-preserved c =
    let kept = c.loop-e.invariant in
    (gather_more _ _ _ _ _ _ kept.1 _ _ _ _ _ _ _ _ _ kept.0 _ _ c.loop-e-test.true c.row_of.ensures c.weigh-line.ensures, c.end_of-e-in-loop-e.ensures)

pub returns : goal.returns
returns c = search gather_done
