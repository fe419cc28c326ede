-- `searching::put_search` meets its contract: the lent list is zeros, as many as are asked for, up to the limit. Assumes nothing.
use borrow.Author.Rules.{rules}
use Rattle.printing.proofs.Texts.{cut_long, cut_ready}
use Rattle.searching.proofs.Texts.{search_cut}
use Rattle.searching.proofs.put_search.Goals as goal

pub slice_bounds-put_listed-end : goal.slice_bounds-put_listed-end
slice_bounds-put_listed-end c = search (cut_long, rules)

pub put_listed-requires : goal.put_listed-requires
put_listed-requires c = search (cut_ready, rules)

pub returns : goal.returns
returns c = search search_cut
