use borrow.Author.Rules.{rules}
use Rattle.parts.proofs.collect.Goals.{then-is_canonical, else-is_canonical}
use Rattle.parts.proofs.Collecting.{collecting_keep, collecting_done, collecting_long, collecting_pre, collecting_skip, collecting_start}
use Rattle.parts.proofs.collect.Goals as goal

pub loop-p-init : goal.loop-p-init
loop-p-init c = search collecting_start

pub add-n-requires : goal.add-n-requires
add-n-requires c = search collecting_pre

-- the literal part of a canonical word was put into the set
pub loop-p-preserved : goal.loop-p-preserved
loop-p-preserved c = elim c.if-is_canonical.branch [
  | then-is_canonical w ↦ rw (w.set-is, w.n-is) (search collecting_keep)
  | else-is_canonical w ↦ rw (w.set-is, w.n-is) (search collecting_skip)
]

pub settle-requires : goal.settle-requires
settle-requires c = search collecting_pre

pub shape_of-set : goal.shape_of-set
shape_of-set c = search (collecting_long, rules)

pub returns : goal.returns
returns c = search collecting_done
