-- `valid_names::zero_bytes` meets its contract: the library asks it of every byte that is not skipped. Assumes nothing.
use borrow.Author.Rules.{rules}
use borrow.Author.Tests.{tests}
use lib.Dec.{eqb}
use lib.ListN.{drop}
use Rattle.std.proofs.lemmas.Iterator.{YieldsList-from_slice}
use Rattle.std.proofs.lemmas.Iterator.Adapters.{YieldsList-from_skip}
use Rattle.std.proofs.lemmas.Iterator.Search.{all_from_yields_List}
use Rattle.program.specs.Valid.{zero_from}
use Rattle.table_names.proofs.Chains.{every_all}
use Rattle.valid_names.proofs.zero_bytes.Goals as goal

pub returns : goal.returns
unfolding zero_from
returns c =
    let xs = c.args.s.now in
    every_all (eqb 0) (drop c.args.from xs) c.all.result
    (all_from_yields_List (eqb 0) _ _ _ c.all.ensures.ran (YieldsList-from_skip c.args.from (YieldsList-from_slice xs cc) cc) (λ x b q k. search (rules, tests)))
