-- `fix_insert::place` meets its contract: the place that the library finds is the rank. Assumes nothing.
use borrow.Author.Rules.{rules}
use native.Mathlib.Omega.{arith}
use lib.Dec.{ltb}
use lib.ListN.{take, length}
use lib.Seq.{length-take-le}
use mathlib.Core.Path.{◌≡◌}
use Rattle.std.proofs.lemmas.List.Sorted.{IsPartitionPoint-from_clause}
use Rattle.fix_insert.proofs.Places.{rises, ranked}
use Rattle.fix_insert.proofs.place.Goals as goal

pub returns : goal.returns
returns c =
    let l = take c.args.members c.args.set.now in
    let long : length l ≡ c.args.members = length-take-le c.args.members c.args.set.now c.requires.0 in
    let point = IsPartitionPoint-from_clause (λ y. ltb y c.args.x) l c.partition_point.result c.partition_point.ensures.partitioned (rises c.args.x l c.requires.1) (λ a r q k. search rules) in
    (ranked c.args.x l c.partition_point.result c.requires.1 (omega (arith, c.partition_point.ensures.bound)) point, omega (arith, c.partition_point.ensures.bound))
