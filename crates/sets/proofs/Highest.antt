-- One bit as a word of any width, and the highest bit of a word as its leading zeros give it. Assumes nothing.
use mathlib.Core.Path.{◌≡◌, ap, ◌∙◌}
use Prim.Native.Nat.{ℕ, ◌-◌, ◌*◌, ◌%◌, ◌^◌, ◌≤◌, ◌<◌}
use native.Mathlib.Nat.{one-mul, pow-suc}
use native.Mathlib.Omega.{arith}
use lib.Count.{count_leading_zeros, leading_top}
use lib.Dec.{lit<}
use lib.Pow.{shl_exact}
use Rattle.sets.specs.Words.{Highest}

pub one_shl : (width k : ℕ) → k < width → 1 * 2 ^ k % 2 ^ width ≡ 2 ^ k
one_shl width k h = shl_exact 1 k width (lit< tt) (omega arith) ∙ one-mul (2 ^ k)

module _ (width x : ℕ) (some : 0 < x) (fits : x < 2 ^ width) where
  pub leading_few : count_leading_zeros width x ≤ width - 1
  leading_few = omega (arith, (leading_top width x some fits).1)

  pub highest_is : Highest x (1 * 2 ^ (width - 1 - count_leading_zeros width x) % 2 ^ width)
  highest_is =
      let t = leading_top width x some fits in
      let e : width - 1 - count_leading_zeros width x ≡ t.0 = omega (arith, t.1) in
      let q = ap (λ i. 1 * 2 ^ i % 2 ^ width) e ∙ one_shl width t.0 (omega (arith, t.1)) in
      record { place = t.0; power = q; within = omega (arith, q, t.2); most = omega (arith, q, t.3, pow-suc 2 t.0) }
