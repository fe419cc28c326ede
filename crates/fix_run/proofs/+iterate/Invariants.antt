-- `fix_run::iterate` meets its contract: it calls itself at the next stage, of which stage 65 at the latest equals its successor, and each way to go on is a law. Assumes nothing.
use Prim.Native.Nat.{◌-◌}
use Rattle.stages.specs.Run.{latest_rest}
use Rattle.fix_run.proofs.+iterate.Given as goal

abbrev pub decreases-iterate : goal.decreases-iterate
decreases-iterate l = latest_rest - l.k
