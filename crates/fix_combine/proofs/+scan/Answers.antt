use native.Mathlib.Omega.{arith}
use Rattle.sets.proofs.Branches.{rest_less}
use Rattle.heads.proofs.Scanning.{scan_runs, scan_infeasible, scan_one, scan_over, scan_both}
use Rattle.fix_combine.proofs.+scan.Goals as goal

pub returns-then-infeasible : goal.returns-then-infeasible
returns-then-infeasible t c = search scan_infeasible

pub returns-then-free-eq0 : goal.returns-then-free-eq0
returns-then-free-eq0 t c = search scan_one

pub scan-m-requires : goal.scan-m-requires
scan-m-requires t c = (omega (arith, c.decreases, rest_less c.args.free c.highest-top.result c.highest-top.ensures), c.requires)

pub returns-then-set-m : goal.returns-then-set-m
returns-then-set-m t c = search scan_over

pub scan-requires : goal.scan-requires
scan-requires t c = let p = c.requires in
    let long = c.if-set-m.false in (
      omega (arith, c.decreases, rest_less c.args.free c.highest-top.result c.highest-top.ensures),
      (p.0, long, scan_runs _ _ _ _ _ _ c.highest-top.ensures p.2 p.1 _ _ c.scan-m.ensures long),
    )

pub returns : goal.returns
returns t c = search scan_both
