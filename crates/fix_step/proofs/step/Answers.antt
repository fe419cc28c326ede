use borrow.Author.Rules.{rules}
use Prim.Native.Nat.{◌<◌}
use native.Mathlib.Omega.{arith}
use lib.Seq.{get_or-take, length-take-le}
use Rattle.operator.proofs.Stepping.{step_done, step_long, step_next, step_over, step_runs, step_start}
use Rattle.fix_step.proofs.step.Goals as goal

pub loop-i-init : goal.loop-i-init
loop-i-init c = search step_start

pub shape_of-after-then-after-n : goal.shape_of-after-then-after-n
shape_of-after-then-after-n c = search step_long

pub returns-then-after-n : goal.returns-then-after-n
returns-then-after-n c = search step_over

pub give-n-requires : goal.give-n-requires
give-n-requires c = search (step_runs, rules)

pub loop-i-preserved : goal.loop-i-preserved
loop-i-preserved c =
    let h : c.loop-i.i-index < c.args.members = omega (arith, length-take-le c.args.members c.args.stage.now c.loop-i.invariant.inside) in
    step_next _ _ _ _ _ _ _ c.loop-i.invariant _ _ h c.if-after-n.false (rw (get_or-take c.args.members c.args.stage.now c.loop-i.i-index 0 h) at c.give-n.ensures)

pub shape_of-after-then-after-n-2 : goal.shape_of-after-then-after-n-2
shape_of-after-then-after-n-2 c = search step_long

pub returns-then-after-n-2 : goal.returns-then-after-n-2
returns-then-after-n-2 c = search step_over

pub settle-requires : goal.settle-requires
settle-requires c = search (step_runs, rules)

pub shape_of-after : goal.shape_of-after
shape_of-after c = search (step_long, rules)

pub returns : goal.returns
returns c = step_done _ _ _ _ _ _ _ c.loop-i.invariant _ (omega (arith, length-take-le c.args.members c.args.stage.now c.loop-i.invariant.inside)) c.settle.ensures
