-- `summary_values::value_occurs` meets its contract: the library says whether some word passes. Assumes nothing.
use mathlib.Core.Path.{◌∙◌}
use borrow.Author.Rules.{rules}
use borrow.Author.Tests.{tests}
use lib.Dec.{eqb}
use Rattle.std.proofs.lemmas.Iterator.{YieldsList-from_slice}
use Rattle.std.proofs.lemmas.Iterator.Search.{any_from_yields_List}
use Rattle.program.specs.Values.{value_in}
use Rattle.summary.specs.Summary.{occurs}
use Rattle.summary_values.proofs.Answered.{is_any}
use Rattle.summary_values.proofs.value_occurs.Goals as goal

pub returns : goal.returns
unfolding occurs
returns c =
    let words = c.args.words.now in
    any_from_yields_List (λ w. eqb (value_in w c.args.i) c.args.v) _ _ _ c.any.ensures.ran (YieldsList-from_slice words cc) (λ x b q k. search (rules, tests)) ∙ is_any _ words
