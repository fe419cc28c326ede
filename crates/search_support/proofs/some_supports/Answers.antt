use Rattle.literals.proofs.Stepping.{step_start, step_hit, step_next, step_done}
use Rattle.search_support.proofs.some_supports.Goals as goal

pub loop-row-init : goal.loop-row-init
loop-row-init c = rw (c.into_iter-row-iterator.ensures.into_iter_gives, c.members-row-items.ensures) (search step_start)

pub returns-then-supports : goal.returns-then-supports
returns-then-supports c = let s = c.in-Some.ensures.steps in search (step_hit, s.some, s.lowest)

pub loop-row-preserved : goal.loop-row-preserved
loop-row-preserved c = let s = c.in-Some.ensures.steps in rw s.others (search (step_next, s.some, s.lowest))

pub returns : goal.returns
returns c = let s = c.in-None.ensures.steps in search (step_done, s.0)
