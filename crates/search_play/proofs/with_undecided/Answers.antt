-- A shift of one is exact below 32 bits, and the word has room above its undecided bits. Assumes nothing.
use native.Mathlib.Omega.{arith}
use lib.Pow.{pow_pos}
use Rattle.sets.proofs.Highest.{one_shl}
use Rattle.search_play.proofs.with_undecided.Goals as goal

pub overflow_sub-result : goal.overflow_sub-result
overflow_sub-result c = omega (arith, one_shl 32 c.args.k (omega (arith, c.requires.few)), pow_pos c.args.k)

pub overflow_add-result : goal.overflow_add-result
overflow_add-result c = omega (arith, one_shl 32 c.args.k (omega (arith, c.requires.few)), c.requires.fits)

pub returns : goal.returns
returns c = omega (arith, one_shl 32 c.args.k (omega (arith, c.requires.few)))
