-- The loop keeps that the first `p` words stand in the list and all behind them is as it was. Assumes nothing.
use Rattle.parts.proofs.Collecting.{Writing}
use Rattle.parts.proofs.write_models.Given as goal

abbrev pub invariant-loop-p : goal.invariant-loop-p
invariant-loop-p l = Writing l.words l.count l.initial.models l.models l.p
