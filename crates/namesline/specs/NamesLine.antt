-- What the items on the names line are, and the refusals that they decide. Assumes nothing.
use Rattle.std.specs.Prelude.{◌≡◌, List, [], ◌∷◌, ℕ, ◌≤◌, length, take}
use Rattle.sets.specs.Lists.{every}
use Rattle.lists.specs.Bytes.{distinct, pieces}
use Rattle.program.specs.Names.{is_name}
use Rattle.program.specs.Refusals.{lowest}
use Rattle.text.specs.Lines.{names}
use Rattle.text.specs.Refusals.{names_broken, names_equal}
use Rattle.namesline.specs.declared.NamesLine.{NamesLine}

-- how many items, whether each is a name, and whether no two are equal
unfoldable pub names_said : List (List ℕ) → NamesLine
names_said is = record { count = length is; named = every is_name is; apart = distinct is }

-- the names of a text are the items on its first r bytes
pub record NamesEnd (b : List ℕ) (r : ℕ) : Type 0 where
  pub within : r ≤ length b
  pub items : names b ≡ pieces 32 (take r b)

-- 5 and 6, which the names line decides
unfoldable pub names_refusal : List ℕ → ℕ
names_refusal b = lowest ((5, names_broken b) ∷ (6, names_equal b) ∷ [])
