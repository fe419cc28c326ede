-- `clear::keep` meets its contract: the laws of a call that clears the place, a law for each answer. Assumes nothing.
use Rattle.sets.proofs.Tests.{via_true, via_false}
use Rattle.held.specs.Clearing.{keep_of}
use Rattle.held.proofs.Laws.{keep_room, clears_nine, clears_held, clears_nothing}
use Rattle.clear.proofs.keep.Goals as goal

pub returns-then-not-is_valid : goal.returns-then-not-is_valid
unfolding keep_of
returns-then-not-is_valid c = search (clears_nine, via_false)

pub with_last-requires : goal.with_last-requires
with_last-requires c = search (keep_room, via_true)

pub returns-then-held : goal.returns-then-held
unfolding keep_of
returns-then-held c = search (clears_held, via_true)

pub returns : goal.returns
unfolding keep_of
returns c = search (clears_nothing, via_true)
