use Rattle.seek.proofs.Ways.{way_start, way_out, way_in, way_done}
use Rattle.search_play.proofs.play_at.Goals.{then-w-literal-eq0, else-w-literal-eq0}
use Rattle.search_play.proofs.play_at.Goals as goal

pub loop-literal-init : goal.loop-literal-init
loop-literal-init c = search way_start

pub loop-literal-preserved : goal.loop-literal-preserved
loop-literal-preserved c = elim c.if-w-literal-eq0.branch [
  | then-w-literal-eq0 w ↦ rw w.lost-is (search way_out)
  | else-w-literal-eq0 w ↦ rw w.lost-is (search way_in)
]

pub returns : goal.returns
returns c = search way_done
