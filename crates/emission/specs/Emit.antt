-- Clauses put one behind the other into two slices. Assumes nothing.
use Rattle.std.specs.Prelude.{ℕ, ◌+◌, ◌≤◌, length, drop, List, ◌++◌, ◌≡◌}
use Rattle.sets.specs.Lists.{tabulate}
use Rattle.operator.specs.Operator.{WordRule, rule_at}

-- the clauses X were put behind the first `at`: r and the slices at exit, whose places behind the r-th hold what they held
pub record Emits (X : List WordRule) (hs bs : List ℕ) (at : ℕ) (hs' bs' : List ℕ) (r : ℕ) : Type 0 where
  pub count : r ≡ at + length X
  pub rules : tabulate (rule_at hs' bs') r ≡ tabulate (rule_at hs bs) at ++ X
  pub heads : length hs' ≡ length hs
  pub bodies : length bs' ≡ length bs
  pub heads_behind : drop r hs' ≡ drop r hs
  pub bodies_behind : drop r bs' ≡ drop r bs

-- there is room for them
pub record Places (X : List WordRule) (hs bs : List ℕ) (at : ℕ) : Type 0 where
  pub heads : at + length X ≤ length hs
  pub bodies : at + length X ≤ length bs
