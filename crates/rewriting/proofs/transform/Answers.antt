use Rattle.rewriting.proofs.Rewriting.{rewriting_bodies, rewriting_done, rewriting_heads, rewriting_start, rewriting_step, row_takes}
use Rattle.rewriting.proofs.transform.Goals as goal

pub loop-k-init : goal.loop-k-init
loop-k-init c = search rewriting_start

pub emit_clause-n-requires : goal.emit_clause-n-requires
emit_clause-n-requires c = search row_takes

pub loop-k-preserved : goal.loop-k-preserved
loop-k-preserved c = search rewriting_step

pub shape_of-hs : goal.shape_of-hs
shape_of-hs c = search rewriting_heads

pub shape_of-bs : goal.shape_of-bs
shape_of-bs c = search rewriting_bodies

pub returns : goal.returns
returns c = search rewriting_done
