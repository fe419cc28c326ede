-- `fix_feasible::meeting` meets its contract: the library counts the heads that pass. Assumes nothing.
use borrow.Author.Rules.{rules}
use Prim.Native.Nat.{ℕ}
use lib.ListN.{take}
use mathlib.Core.Path.{◌≡◌}
use native.Mathlib.Omega.{arith}
use Rattle.std.specs.List.{count_by}
use Rattle.sets.specs.Words.{meets}
use Rattle.fix_feasible.proofs.Chains.{count_is}
use Rattle.fix_feasible.proofs.meeting.Goals as goal

pub returns : goal.returns
returns c =
    let e : c.count.result ≡ count_by (λ (h : ℕ). meets c.args.x h) (take c.args.n c.args.wide.now) = search rules in
    count_is (meets c.args.x) c.args.wide.now c.args.n c.count.result (omega arith) e
