-- `listings::put_model_lines`: the loop keeps `Laid`: the lines of the first `k` words stand there. Assumes nothing.
use lib.ListN.{take}
use Rattle.lines.proofs.Laying.{Laid}
use Rattle.listings.specs.Listing.{model_lines}
use Rattle.listings.proofs.Models.{model_at}
use Rattle.listings.proofs.put_model_lines.Given as goal

abbrev pub invariant-loop-k : goal.invariant-loop-k
invariant-loop-k l = Laid (model_at l.n l.models) l.m (model_lines l.n (take l.m l.models)) l.initial.out l.at l.out l.k
