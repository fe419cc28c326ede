-- `searching::put_listed` meets its contract: a search writes no more words than its list has places, and the text is that of its answer. Assumes nothing.
use borrow.Author.Rules.{rules}
use Rattle.searching.proofs.Texts.{written_here, written_long, written-ready, search_wrote}
use Rattle.searching.proofs.put_listed.Goals as goal

pub slice_bounds-put_searched-end : goal.slice_bounds-put_searched-end
slice_bounds-put_searched-end c = search (written_here, rules)

pub slice_bounds-put_searched-end-2 : goal.slice_bounds-put_searched-end-2
slice_bounds-put_searched-end-2 c = search (written_long, rules)

pub put_searched-requires : goal.put_searched-requires
put_searched-requires c = search (written-ready, rules)

pub returns : goal.returns
returns c = search search_wrote
