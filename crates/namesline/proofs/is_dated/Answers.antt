-- `namesline::is_dated` asks it of the items on the first line. Assumes nothing.
use borrow.Author.Rules.{rules}
use Rattle.program.proofs.Places.{up_to}
use Rattle.namesline.proofs.Items.{dated_by}
use Rattle.namesline.proofs.is_dated.Goals as goal

pub slice_bounds-ends_dated-end : goal.slice_bounds-ends_dated-end
slice_bounds-ends_dated-end c = search (up_to, rules)

pub returns : goal.returns
returns c = search dated_by
