-- The least number that passes a test. Assumes nothing.
use Rattle.std.specs.Prelude.{Bool, cond, ℕ, zero, suc}

-- the least number from i on that passes p, among k numbers; i + k where none does
unfoldable pub least_from : (ℕ → Bool) → ℕ → ℕ → ℕ
least_from p zero i = i
least_from p (suc k) i = let r = least_from p k (suc i) in cond (p i) i r

-- the least number below n that passes p; n where none does
unfoldable pub least : (ℕ → Bool) → ℕ → ℕ
unfolding least_from
least p n = least_from p n 0
