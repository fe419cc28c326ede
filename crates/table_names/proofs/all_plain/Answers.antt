-- `table_names::all_plain` meets its contract: the library asks the test of every byte. Assumes nothing.
use borrow.Author.Rules.{rules}
use borrow.Author.Tests.{tests}
use Rattle.std.proofs.lemmas.Iterator.{YieldsList-from_slice}
use Rattle.std.proofs.lemmas.Iterator.Search.{all_from_yields_List}
use Rattle.program.specs.Names.{is_plain}
use Rattle.table_names.proofs.Chains.{every_all}
use Rattle.table_names.proofs.all_plain.Goals as goal

pub returns : goal.returns
returns c =
    every_all is_plain c.args.s.now c.all.result
    (all_from_yields_List is_plain _ _ _ c.all.ensures.ran (YieldsList-from_slice c.args.s.now cc) (λ x b q k. search (rules, tests)))
