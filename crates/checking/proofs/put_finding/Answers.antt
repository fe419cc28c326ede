-- `checking::put_finding` meets its contract: one law for each finding of the check. Assumes nothing.
use Rattle.checking.proofs.Texts.{finds-violated, finds-smaller, finds_stable}
use Rattle.checking.proofs.put_finding.Goals as goal

pub returns-in-Violated : goal.returns-in-Violated
returns-in-Violated c = search finds-violated

pub returns-in-Smaller : goal.returns-in-Smaller
returns-in-Smaller c = search finds-smaller

pub returns-in-Stable : goal.returns-in-Stable
returns-in-Stable c = search finds_stable
