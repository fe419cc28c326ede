-- `namesline::names_end`: before the two words of a dated line, which are eight bytes of it (`end_dated`), and at the end of any other (`end_undated`). Assumes nothing.
use borrow.Author.Rules.{rules}
use Rattle.program.proofs.Places.{up_to}
use Rattle.namesline.proofs.Items.{words_fit, end_dated, end_undated}
use Rattle.namesline.proofs.names_end.Goals as goal

pub slice_bounds-ends_dated-end : goal.slice_bounds-ends_dated-end
slice_bounds-ends_dated-end c = search (up_to, rules)

pub overflow_sub-result : goal.overflow_sub-result
overflow_sub-result c = search words_fit

pub returns-then-ends_dated : goal.returns-then-ends_dated
returns-then-ends_dated c = search end_dated

pub returns-else-ends_dated : goal.returns-else-ends_dated
returns-else-ends_dated c = search end_undated
