use Rattle.sets.proofs.Tests.{via}
use Rattle.stages.proofs.Iterating.{iterating, iterate_on, iterate_rest}
use Rattle.fix_run.proofs.+iterate.Goals as goal

pub slice_bounds-is_settled-end : goal.slice_bounds-is_settled-end
slice_bounds-is_settled-end t c = search iterating

pub slice_bounds-is_settled-end-2 : goal.slice_bounds-is_settled-end-2
slice_bounds-is_settled-end-2 t c = search iterating

pub is_settled-requires : goal.is_settled-requires
is_settled-requires t c = search iterating

pub finish-requires-clause-count_in_bounds : goal.finish-requires-clause-count_in_bounds
finish-requires-clause-count_in_bounds t c = (search iterating, search iterating)

pub finish-requires-clause-iterating : goal.finish-requires-clause-iterating
finish-requires-clause-iterating t c = search iterating

pub finish-requires-clause-first_value : goal.finish-requires-clause-first_value
finish-requires-clause-first_value t c = via c.is_settled.ensures c.if-is_settled.true

pub shape_of-first-then-is_settled : goal.shape_of-first-then-is_settled
shape_of-first-then-is_settled t c = search iterating

pub shape_of-second-then-is_settled : goal.shape_of-second-then-is_settled
shape_of-second-then-is_settled t c = search iterating

pub returns-then-is_settled : goal.returns-then-is_settled
returns-then-is_settled t c = search iterating

pub step-n-requires : goal.step-n-requires
step-n-requires t c = search iterating

pub shape_of-first-then-second-n : goal.shape_of-first-then-second-n
shape_of-first-then-second-n t c = search iterating

pub shape_of-second-then-second-n : goal.shape_of-second-then-second-n
shape_of-second-then-second-n t c = search iterating

pub returns-then-second-n : goal.returns-then-second-n
returns-then-second-n t c = search iterating

pub slice_bounds-same_words-end : goal.slice_bounds-same_words-end
slice_bounds-same_words-end t c = search iterating

pub slice_bounds-same_words-end-2 : goal.slice_bounds-same_words-end-2
slice_bounds-same_words-end-2 t c = search iterating

pub slice_bounds-same_words-end-3 : goal.slice_bounds-same_words-end-3
slice_bounds-same_words-end-3 t c = search iterating

pub slice_bounds-same_words-end-4 : goal.slice_bounds-same_words-end-4
slice_bounds-same_words-end-4 t c = search iterating

pub same_words-requires : goal.same_words-requires
same_words-requires t c = search iterating

pub shape_of-first-then-same_words : goal.shape_of-first-then-same_words
shape_of-first-then-same_words t c = search iterating

pub shape_of-second-then-same_words : goal.shape_of-second-then-same_words
shape_of-second-then-same_words t c = search iterating

pub returns-then-same_words : goal.returns-then-same_words
returns-then-same_words t c = iterate_rest _ _ _ _ _ c.requires.iterating _ _ c.step-n.ensures _ c.if-second-n.false c.same_words.ensures c.if-same_words.true

pub overflow_add-k : goal.overflow_add-k
overflow_add-k t c = search iterating

pub iterate-requires : goal.iterate-requires
iterate-requires t c = let on = iterate_on _ _ _ _ _ c.requires.iterating _ _ c.step-n.ensures _ c.if-second-n.false c.same_words.ensures c.if-same_words.false in
    (search iterating, ((search iterating, search iterating), on))

pub shape_of-first : goal.shape_of-first
shape_of-first t c = search iterating

pub shape_of-second : goal.shape_of-second
shape_of-second t c = search iterating

pub returns : goal.returns
returns t c = search iterating
