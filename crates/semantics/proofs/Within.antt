-- No p-stable model lies within another. Assumes nothing.
use mathlib.Core.List.{List}
use Prim.Native.Nat.{ℕ}
use Rattle.sets.specs.Words.{Set, ◌⊑◌}
use Rattle.semantics.specs.Definitions.{Rule, Reduct, PStable}

-- what misses a set misses each set within it, so the reduct by the larger is a part of the reduct by the smaller
reduct_within : (P : List Rule) (I J : Set ℕ) → I ⊑ J → (r : Rule) → Reduct P J r → Reduct P I r
reduct_within P I J h r m = (m.0, m.1, m.2, λ L a b. m.3 L a (h L b))

-- the smaller one is then a model of the reduct by the larger, of which the larger is a minimal one
pub antichain : (P : List Rule) (I J : Set ℕ) → PStable P I → PStable P J → I ⊑ J → J ⊑ I
antichain P I J s t h = t.minimal I h (λ r m. s.model r (reduct_within P I J h r m))
