use borrow.Author.Rules.{rules}
use Rattle.fix_push.proofs.Walk.{walk_bodies, walk_done, walk_heads, walk_place, walk_start, walk_step}
use Rattle.fix_push.proofs.Emitting.{pair_room}
use Rattle.standins.proofs.emit_d_one.Goals as goal

pub loop-u-init : goal.loop-u-init
loop-u-init c = rw (c.into_iter-u-iterator.ensures.into_iter_gives, c.members-u-items.ensures) (search walk_start)

pub push_d-n-requires : goal.push_d-n-requires
push_d-n-requires c = let s = c.in-Some.ensures.steps in search (walk_place, pair_room, rules, s.some, s.lowest.place)

pub overflow_add-q : goal.overflow_add-q
overflow_add-q c = let s = c.in-Some.ensures.steps in search (walk_place, rules, s.some)

pub loop-u-preserved : goal.loop-u-preserved
loop-u-preserved c = let s = c.in-Some.ensures.steps in rw s.others (search (walk_step, s.some, s.lowest.place))

pub shape_of-hs : goal.shape_of-hs
shape_of-hs c = search walk_heads

pub shape_of-bs : goal.shape_of-bs
shape_of-bs c = search walk_bodies

pub returns : goal.returns
returns c = let s = c.in-None.ensures.steps in search (walk_done, s.0)
