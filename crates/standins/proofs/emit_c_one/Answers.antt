use borrow.Author.Rules.{rules}
use Rattle.fix_push.proofs.Walk.{walk_bodies, walk_done, walk_heads}
use Rattle.fix_push.proofs.Emitting.{run_room, run_start, run_step}
use Rattle.standins.proofs.emit_c_one.Goals as goal

pub loop-t-init : goal.loop-t-init
loop-t-init c = rw (c.into_iter-t-iterator.ensures.into_iter_gives, c.members-t-items.ensures) (search run_start)

pub push_c-n-requires : goal.push_c-n-requires
push_c-n-requires c = let s = c.in-Some.ensures.steps in search (run_room, rules, s.some, s.lowest.place)

pub loop-t-preserved : goal.loop-t-preserved
loop-t-preserved c = let s = c.in-Some.ensures.steps in rw s.others (search (run_step, s.some, s.lowest.place))

pub shape_of-hs : goal.shape_of-hs
shape_of-hs c = search walk_heads

pub shape_of-bs : goal.shape_of-bs
shape_of-bs c = search walk_bodies

pub returns : goal.returns
returns c = let s = c.in-None.ensures.steps in search (walk_done, s.0)
