-- The lowest of the first six refusals that applies: one law for each way out. Assumes nothing.
use mathlib.Core.Path.{◌≡◌, ◌∙◌}
use mathlib.Core.Bool.{true, false}
use mathlib.Core.List.{List}
use Prim.Native.Nat.{ℕ}
use Rattle.program.specs.Refusals.{lowest}
use Rattle.text.specs.Refusals.{wrong_size, unended, has_foreign, too_many_lines, opening_refusal}
use Rattle.namesline.specs.NamesLine.{names_refusal}

module _ (b : List ℕ) where
  pub is1 : wrong_size b ≡ true → 1 ≡ opening_refusal b
  unfolding opening_refusal lowest
  is1 t = rw t

  pub is2 : wrong_size b ≡ false → unended b ≡ true → 2 ≡ opening_refusal b
  unfolding opening_refusal lowest
  is2 a t = rw (a, t)

  pub is3 : wrong_size b ≡ false → unended b ≡ false → has_foreign b ≡ true → 3 ≡ opening_refusal b
  unfolding opening_refusal lowest
  is3 a c t = rw (a, c, t)

  pub is4 : wrong_size b ≡ false → unended b ≡ false → has_foreign b ≡ false → too_many_lines b ≡ true → 4 ≡ opening_refusal b
  unfolding opening_refusal lowest
  is4 a c d t = rw (a, c, d, t)

  -- the first four do not apply: the names line decides
  pub is5_6 : (r : ℕ) → wrong_size b ≡ false → unended b ≡ false → has_foreign b ≡ false → too_many_lines b ≡ false
      → r ≡ names_refusal b → r ≡ opening_refusal b
  unfolding opening_refusal names_refusal lowest
  is5_6 r a c d f e = e ∙ rw (a, c, d, f)
