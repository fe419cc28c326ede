-- What a clause becomes, part by part, and what the routines that put it out are handed. Assumes nothing.
use Rattle.std.specs.Prelude.{ℕ, ◌+◌, ◌^◌, ◌≤◌, ◌<◌, length, List, ◌++◌, map}
use Rattle.program.specs.Clauses.{Clause, Below, clause_at}
use Rattle.sets.specs.Lists.{Each, tabulate}
use Rattle.sets.specs.Words.{mask}
use Rattle.literals.specs.Literals.{literals}
use Rattle.operator.specs.Operator.{WordRule}
use Rattle.transform.specs.Transform.{Stand, numbered, rewritten, becomes, stand_ins}
use Rattle.emission.specs.Emit.{Places}

-- the word of all stand-ins of a head, from s on
unfoldable pub stand_mask : ℕ → ℕ → ℕ
stand_mask s head = mask (map (λ (p : Stand). p.at) (numbered s (literals head)))

-- the head of (a) as a word
unfoldable pub head_a : ℕ → ℕ → ℕ → ℕ → ℕ
head_a m s head naf = mask (map (λ (p : Stand). p.at) (numbered s (literals head)) ++ map (λ n. m + n) (literals naf))

-- what a clause with a not-part becomes
abbrev pub rewritten_from : ℕ → ℕ → ℕ → ℕ → ℕ → List WordRule
rewritten_from m s head body naf = rewritten m (numbered s (literals head)) (literals naf) (literals body)

-- its not-part lies below 2 ^ m, its stand-ins, from s on, are members of a word, and there is room for what it becomes
pub record Rewrites (m s head body naf : ℕ) (hs bs : List ℕ) (at : ℕ) : Type 0 where
  pub few : m ≤ 32
  pub below : naf < 2 ^ m
  pub places : s + length (literals head) ≤ 64
  pub room : Places (rewritten_from m s head body naf) hs bs at

-- the same of any clause
pub record Takes (m s : ℕ) (c : Clause) (hs bs : List ℕ) (at : ℕ) : Type 0 where
  pub few : m ≤ 32
  pub below : c.naf < 2 ^ m
  pub places : s + stand_ins c ≤ 64
  pub room : Places (becomes m s c) hs bs at

-- what a valid table gives: at most 64 clauses in three columns, over m literals, 24 at most
pub record ClausesOver (m : ℕ) (hs bs ns : List ℕ) (count : ℕ) : Type 0 where
  pub literals : m ≤ 24
  pub few : count ≤ 64
  pub heads : count ≤ length hs
  pub bodies : count ≤ length bs
  pub nafs : count ≤ length ns
  pub below : Each (Below m) (tabulate (clause_at hs bs ns) count)
