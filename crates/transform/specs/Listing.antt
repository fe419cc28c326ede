-- What is taken of the minimal models of the transform. Assumes nothing.
use Rattle.std.specs.Prelude.{Bool, List, map, ℕ, ◌/◌, ◌%◌, ◌^◌}
use Rattle.sets.specs.Lists.{sift}
use Rattle.sets.specs.Words.{inside}
use Rattle.rising.specs.RisingSets.{gather}
use Rattle.operator.specs.Operator.{WordRule}
use Rattle.stages.specs.Minimal.{minimal_models}

-- the literals stand at the m lowest bits, K of each m bits higher
abbrev pub literal_part : ℕ → ℕ → ℕ
literal_part m w = w % 2 ^ m

-- "those that hold L wherever they hold K L"
unfoldable pub canonical : ℕ → ℕ → Bool
canonical m w = inside (literal_part m (w / 2 ^ m)) (literal_part m w)

-- "Their literal parts, distinct and rising, are the list."
abbrev pub parts_of : ℕ → List ℕ → List ℕ
parts_of m l = gather (map (literal_part m) (sift (canonical m) l))

unfoldable pub listing : ℕ → List WordRule → List ℕ
listing m Q = parts_of m (minimal_models Q)
