-- The place stays within the line. Assumes nothing.
use Rattle.std.proofs.Common.{◌≤◌, length}
use Rattle.trials.proofs.read_words.Given as goal

abbrev pub invariant-loop-n : goal.invariant-loop-n
invariant-loop-n l = l.at ≤ length l.line
