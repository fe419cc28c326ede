use borrow.Author.Rules.{rules}
use Rattle.search_models.proofs.Turns.{turn_start, turn_next, turn_below, turn_falls, turn_none, turn_spent, turn_full}
use Rattle.search_models.proofs.search_clauses.Goals as goal

pub loop-count-init : goal.loop-count-init
loop-count-init c = search turn_start

pub returns-then-w : goal.returns-then-w
returns-then-w c = search turn_none

pub returns-then-w-2 : goal.returns-then-w-2
returns-then-w-2 c = search turn_spent

pub returns-then-written-models : goal.returns-then-written-models
returns-then-written-models c =
    turn_full _ _ _ _ _ _ _ _ _ c.loop-count.invariant c.requires.count_bound.1 _ _ c.first_leaf-w.ensures c.if-w.false c.if-w-2.false c.if-written-models.true c.ended-then-written-models.ensures

pub overflow_add-from : goal.overflow_add-from
overflow_add-from c = search (turn_below, rules)

pub loop-count-smaller : goal.loop-count-smaller
loop-count-smaller c = search turn_falls

pub loop-count-preserved : goal.loop-count-preserved
loop-count-preserved c = search turn_next
