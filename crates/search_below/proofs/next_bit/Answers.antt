-- A shift of one is exact below 32 bits. Assumes nothing.
use Prim.Native.Nat.{◌-◌}
use native.Mathlib.Omega.{arith}
use Rattle.sets.proofs.Highest.{one_shl}
use Rattle.search_below.proofs.next_bit.Goals as goal

pub overflow_sub-result : goal.overflow_sub-result
overflow_sub-result c = omega (arith, c.requires.1)

pub overflow_shl-result : goal.overflow_shl-result
overflow_shl-result c = omega (arith, c.requires.0)

pub returns : goal.returns
returns c = one_shl 32 (c.args.k - 1) (omega (arith, c.requires.0))
