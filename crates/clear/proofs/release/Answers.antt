-- `clear::release` meets its contract: the laws of a call that clears the place, a law for each answer. Assumes nothing.
use Rattle.sets.proofs.Tests.{via_true, via_false}
use Rattle.held.specs.Clearing.{release_of}
use Rattle.held.proofs.Laws.{clears_nine, clears_held, clears_nothing, released_is}
use Rattle.clear.proofs.release.Goals as goal

pub returns-then-not-is_valid : goal.returns-then-not-is_valid
unfolding release_of
returns-then-not-is_valid c = search (clears_nine, via_false)

pub returns-then-held : goal.returns-then-held
unfolding release_of
returns-then-held c = search (clears_held, released_is, via_true)

pub returns : goal.returns
unfolding release_of
returns c = search (clears_nothing, via_true)
