-- (b), then (c), then (d), each behind what stands. Assumes nothing.
use borrow.Author.Rules.{rules}
use Rattle.emission.proofs.Emit.{room_first}
use Rattle.fix_push.proofs.Emitting.{second_room, third_room, three_are}
use Rattle.standins.proofs.emit_bcd.Goals as goal

pub emit_b-b-requires : goal.emit_b-b-requires
emit_b-b-requires c = (search rules, search room_first)

pub emit_c-c-requires : goal.emit_c-c-requires
emit_c-c-requires c = (search rules, search second_room)

pub emit_d-requires : goal.emit_d-requires
emit_d-requires c = (search rules, search third_room)

pub returns : goal.returns
returns c = search three_are
