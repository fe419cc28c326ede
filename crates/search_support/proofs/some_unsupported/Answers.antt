use lib.Bits.{and_le_r}
use Rattle.node.proofs.Asking.{lacking_start, literal_in, lacking_hit, lacking_next, lacking_none}
use Rattle.search_support.proofs.some_unsupported.Goals as goal

pub loop-literal-init : goal.loop-literal-init
loop-literal-init c = rw (c.into_iter-literal-iterator.ensures.into_iter_gives, c.members-literal-items.ensures, c.from.ensures) (search lacking_start)

pub overflow_shl-literal : goal.overflow_shl-literal
overflow_shl-literal c = let s = c.in-Some.ensures.steps in search (literal_in, s.some, s.lowest)

pub returns-then-not-some_supports : goal.returns-then-not-some_supports
returns-then-not-some_supports c = let s = c.in-Some.ensures.steps in search (lacking_hit, s.some, s.lowest)

pub overflow_sub-rows : goal.overflow_sub-rows
overflow_sub-rows c = search and_le_r

pub loop-literal-preserved : goal.loop-literal-preserved
loop-literal-preserved c = let s = c.in-Some.ensures.steps in rw s.others (search (lacking_next, s.some, s.lowest))

pub returns : goal.returns
returns c = let s = c.in-None.ensures.steps in search (lacking_none, s.0)
