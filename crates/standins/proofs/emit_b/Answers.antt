use borrow.Author.Rules.{rules}
use Rattle.fix_push.proofs.Walk.{walk_bodies, walk_done, walk_heads, walk_place, walk_start, walk_step}
use Rattle.fix_push.proofs.Emitting.{b_room}
use Rattle.standins.proofs.emit_b.Goals as goal

pub loop-t-init : goal.loop-t-init
loop-t-init c = rw (c.into_iter-t-iterator.ensures.into_iter_gives, c.members-t-items.ensures) (search walk_start)

pub push_b-n-requires : goal.push_b-n-requires
push_b-n-requires c = let s = c.in-Some.ensures.steps in search (walk_place, b_room, s.some, s.lowest.place)

pub overflow_add-p : goal.overflow_add-p
overflow_add-p c = let s = c.in-Some.ensures.steps in search (walk_place, rules, s.some)

pub loop-t-preserved : goal.loop-t-preserved
loop-t-preserved c = let s = c.in-Some.ensures.steps in rw s.others (search (walk_step, s.some, s.lowest.place))

pub shape_of-hs : goal.shape_of-hs
shape_of-hs c = search walk_heads

pub shape_of-bs : goal.shape_of-bs
shape_of-bs c = search walk_bodies

pub returns : goal.returns
returns c = let s = c.in-None.ensures.steps in search (walk_done, s.0)
