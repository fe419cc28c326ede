use Prim.Native.Nat.{◌<◌}
use lib.Seq.{get_or-take, length-take-le}
use native.Mathlib.Omega.{arith}
use Rattle.heads.proofs.Loops.{join_done, join_start, join_step}
use Rattle.fix_offers.proofs.offered.Goals as goal

pub loop-head-init : goal.loop-head-init
loop-head-init c = search join_start

pub loop-head-preserved : goal.loop-head-preserved
loop-head-preserved c =
    let h : c.loop-head.head-index < c.args.n = omega (arith, length-take-le c.args.n c.args.wide.now (omega arith)) in
    rw (get_or-take c.args.n c.args.wide.now c.loop-head.head-index 0 h) (join_step _ _ _ _ c.loop-head.invariant h)

pub returns : goal.returns
returns c = join_done _ _ _ _ c.loop-head.invariant (omega (arith, length-take-le c.args.n c.args.wide.now (omega arith)))
