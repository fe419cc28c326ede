-- The clauses of a table, packed into one array. Assumes nothing.
use mathlib.Core.Path.{◌≡◌}
use mathlib.Core.List.{List}
use Prim.Native.Nat.{ℕ, ◌≤◌}
use native.Mathlib.Omega.{arith}
use Rattle.sets.specs.Lists.{tabulate}
use Rattle.sets.proofs.Lists.{up_from_ext}
use Rattle.program.specs.Clauses.{clause_of, clause_at}
use Rattle.columns.proofs.Filling.{Filling, fill_done}
use Rattle.leaf.specs.Packed.{packed_at, Packs}

module _ (hs bs ns : List ℕ) where
  -- h, b and f are the parts of clause i
  abbrev pub OfClause : ℕ → ℕ → ℕ → ℕ → Type 0
  OfClause i h b f = clause_of h b f ≡ clause_at hs bs ns i

  pub pack_done : (i : ℕ) (t : List ℕ) → Filling 64 64 128 OfClause i t → 64 ≤ i → Packs hs bs ns t
  pack_done i t s h = record { same = fill_done 64 64 128 OfClause i t s h }

  pub packed_same : (t : List ℕ) (n : ℕ) → Packs hs bs ns t → n ≤ 64 → tabulate (packed_at t) n ≡ tabulate (clause_at hs bs ns) n
  unfolding tabulate
  packed_same t n s h = up_from_ext (packed_at t) (clause_at hs bs ns) n 0 (λ j l. s.same j (omega arith))
