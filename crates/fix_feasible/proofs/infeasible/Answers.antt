-- `fix_feasible::infeasible` meets its contract: each test that leaves a branch is a law: a head is missed, or some literals are more than the heads that meet them. Assumes nothing.
use Rattle.heads.proofs.Scanning.{infeasible_many, infeasible_missed, infeasible_not}
use Rattle.fix_feasible.proofs.infeasible.Goals as goal

pub returns-then-t-eq0 : goal.returns-then-t-eq0
returns-then-t-eq0 c = search infeasible_missed

pub returns-then-x-eq0 : goal.returns-then-x-eq0
returns-then-x-eq0 c = search infeasible_not

pub returns : goal.returns
returns c = search infeasible_many
