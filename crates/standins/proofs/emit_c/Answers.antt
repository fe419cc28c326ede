use borrow.Author.Rules.{rules}
use Rattle.fix_push.proofs.Walk.{walk_bodies, walk_done, walk_heads, walk_place, walk_start}
use Rattle.fix_push.proofs.Emitting.{c_room, c_step}
use Rattle.standins.proofs.emit_c.Goals as goal

pub loop-init : goal.loop-init
loop-init c = rw (c.into_iter-iterator.ensures.into_iter_gives, c.members-items.ensures) (search walk_start)

pub emit_c_one-n-requires : goal.emit_c_one-n-requires
emit_c_one-n-requires c = let s = c.in-Some.ensures.steps in search (walk_place, c_room, s.some)

pub overflow_add-p : goal.overflow_add-p
overflow_add-p c = let s = c.in-Some.ensures.steps in search (walk_place, rules, s.some)

pub loop-preserved : goal.loop-preserved
loop-preserved c = let s = c.in-Some.ensures.steps in rw s.others (search (c_step, s.some))

pub shape_of-hs : goal.shape_of-hs
shape_of-hs c = search walk_heads

pub shape_of-bs : goal.shape_of-bs
shape_of-bs c = search walk_bodies

pub returns : goal.returns
returns c = let s = c.in-None.ensures.steps in search (walk_done, s.0)
