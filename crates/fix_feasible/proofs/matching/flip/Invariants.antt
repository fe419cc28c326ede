-- `fix_feasible::matching::flip` is safe: `at` is a place. Assumes nothing.
use Prim.Native.Nat.{◌<◌}
use Rattle.fix_feasible.proofs.matching.flip.Given as goal

abbrev pub invariant-loop : goal.invariant-loop
invariant-loop l = (l.at < 64)
