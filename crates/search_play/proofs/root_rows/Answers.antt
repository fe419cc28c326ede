-- `search_play::root_rows` meets its contract: at the root every bit is undecided. Assumes nothing.
use Rattle.seek.proofs.Handing.{placed_root, root_plays}
use Rattle.search_play.proofs.root_rows.Goals as goal

pub with_undecided-requires : goal.with_undecided-requires
with_undecided-requires c = search placed_root

pub returns : goal.returns
returns c = search root_plays
