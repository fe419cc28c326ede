-- One step of the iterator over the members of a word. Assumes nothing.
use Rattle.std.specs.Prelude.{◌≡◌, ℕ, Option, MatchOption}
use Rattle.literals.specs.declared.MembersLeft.{MembersLeft}
use Rattle.literals.specs.Literals.{low, Lowest}

-- x is the lowest member of the word s, and t is s without it
pub record Taken (s x t : ℕ) : Type 0 where
  pub some : s ≡ 0 → ⊥
  pub lowest : Lowest s x
  pub others : t ≡ low s

-- from a word with a member the lowest comes, and the others are left; from the empty word nothing comes
abbrev pub StepsDown : MembersLeft → Option ℕ → MembersLeft → Type 0
StepsDown s r t = MatchOption r ((s.rest ≡ 0) × (t.rest ≡ 0)) (λ x. Taken s.rest x t.rest)
