-- (a), then the parts behind it, are what the clause becomes. Assumes nothing.
use borrow.Author.Rules.{rules}
use Rattle.rewriting.proofs.Becoming.{a_room, bcd_room, rewritten_is}
use Rattle.rewriting.proofs.rewrite.Goals as goal

pub push-n-requires : goal.push-n-requires
push-n-requires c = rw c.from.ensures (search a_room)

pub emit_bcd-requires : goal.emit_bcd-requires
emit_bcd-requires c = let p = rw c.from.ensures at c.push-n.ensures in rw (c.from-2.ensures, c.from-3.ensures) (search rules, search (bcd_room, p))

pub returns : goal.returns
returns c =
    let p = rw c.from.ensures at c.push-n.ensures in
    let q = rw (c.from-2.ensures, c.from-3.ensures) at c.emit_bcd.ensures in
    search (rewritten_is, p, q)
