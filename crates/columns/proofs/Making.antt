-- The columns are made: each row is looked at for a column, and each literal for all of them. Assumes nothing.
use mathlib.Core.List.{List}
use Prim.Native.Nat.{ℕ, ◌≤◌}
use lib.ListN.{get_or}
use Rattle.sets.specs.Words.{bit}
use Rattle.sets.proofs.Gathering.{Gathering, gather_done}
use Rattle.program.specs.Clauses.{clause_at}
use Rattle.columns.specs.Columns.{Column, Columns}
use Rattle.columns.proofs.Filling.{Filling, fill_done}

pub column_gathered : (words : List ℕ) (n L k s : ℕ) → Gathering (λ i. bit (get_or words i 0) L) n k s → n ≤ k → Column words n L s
column_gathered words n L k s g h = record { exactly = gather_done (λ i. bit (get_or words i 0) L) n k s g h }

module _ (hs bs ns : List ℕ) (n : ℕ) where
  -- h, b and f are the columns of the literal L
  abbrev pub OfLiteral : ℕ → ℕ → ℕ → ℕ → Type 0
  OfLiteral L h b f = Column hs n L h × Column bs n L b × Column ns n L f

  pub columns_filled : (i : ℕ) (C : List ℕ) → Filling 24 24 48 OfLiteral i C → 24 ≤ i → Columns (clause_at hs bs ns) n C
  columns_filled i C s h =
      let all = fill_done 24 24 48 OfLiteral i C s h in
      record { heads = λ L l. (all L l).0.exactly; bodies = λ L l. (all L l).1.exactly; nafs = λ L l. (all L l).2.exactly }
