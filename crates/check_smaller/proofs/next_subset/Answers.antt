-- `check_smaller::next_subset` meets its contract: taken from j + 2 ^ 32, the word leaves what it leaves of 2 ^ 32, and j. Assumes nothing.
use Rattle.std.proofs.Common.{◌≡◌, ℕ, ◌+◌, ◌-◌, ◌%◌, ◌^◌, ◌<◌, ap, arith}
use lib.Bits.{bit_and}
use Rattle.sets.specs.Words.{next_subset}
use Rattle.check_smaller.proofs.next_subset.Goals as goal

wrapped : (I j : ℕ) → I < 2 ^ 32 → bit_and ((j + (2 ^ 32 - I)) % 2 ^ 32) I ≡ next_subset 32 I j
unfolding next_subset
wrapped I j l = let e : j + (2 ^ 32 - I) ≡ j + 2 ^ 32 - I = omega arith in ap (λ (x : ℕ). bit_and (x % 2 ^ 32) I) e

pub returns : goal.returns
returns c = search wrapped
