-- A clause without a not-part stands, any other is rewritten. Assumes nothing.
use Rattle.rewriting.proofs.Becoming.{nots_are, nots_take, plain_is, plain_room}
use Rattle.rewriting.proofs.emit_clause.Goals as goal

pub push-requires : goal.push-requires
push-requires c = rw (c.from.ensures, c.from-then-naf-eq0.ensures) (search plain_room)

pub returns-then-naf-eq0 : goal.returns-then-naf-eq0
returns-then-naf-eq0 c = let p = rw (c.from.ensures, c.from-then-naf-eq0.ensures) at c.push.ensures in search (plain_is, p)

pub rewrite-requires : goal.rewrite-requires
rewrite-requires c = search nots_take

pub returns : goal.returns
returns c = search nots_are
