-- Rows and columns hold the same. Assumes nothing.
use mathlib.Core.Path.{◌≡◌, ap, ◌∙◌}
use mathlib.Core.Bool.{Bool, ◌&&◌}
use mathlib.Core.Logic.{⊎_elim}
use mathlib.Core.List.{List}
use Prim.Native.Nat.{ℕ, ◌^◌, ◌<◌}
use native.Mathlib.Omega.{arith}
use lib.Dec.{ltb}
use borrow.Author.Tests.{lt-ltb, ltb-true}
use Rattle.sets.specs.Lists.{tabulate}
use Rattle.sets.specs.Words.{bit}
use Rattle.sets.proofs.Tests.{dec}
use Rattle.sets.proofs.Lists.{up_from_ext}
use Rattle.sets.proofs.Masks.{mask-sift}
use Rattle.program.specs.Clauses.{Clause, clause_of, Below}
use Rattle.columns.specs.Columns.{head_column, body_column, naf_column, Columns, again, row_from}

-- one part of a row
again_is : (column : ℕ → ℕ) (n k w : ℕ) → k < n → w < 2 ^ 24 → ((L : ℕ) → L < 24 → bit (column L) k ≡ ltb k n && bit w L) → again column k ≡ w
unfolding again
again_is column n k w h l e = mask-sift 24 w (λ L. bit (column L) k) l (λ L a. e L a ∙ ap (λ b. b && bit w L) (lt-ltb k n h))

-- clauses with equal parts are equal
same_parts : {h h' b b' f f' : ℕ} → h ≡ h' → b ≡ b' → f ≡ f' → clause_of h b f ≡ clause_of h' b' f'
same_parts x y z = cc

module _ (at : ℕ → Clause) (n : ℕ) (C : List ℕ) (s : Columns at n C) where
  -- each row, made again from the columns, is the row that it was
  pub row-again : (k : ℕ) → k < n → Below 24 (at k) → row_from C k ≡ at k
  row-again k h b = same_parts
      (again_is (head_column C) n k (at k).head h b.heads (λ L l. s.heads L l k))
      (again_is (body_column C) n k (at k).body h b.bodies (λ L l. s.bodies L l k))
      (again_is (naf_column C) n k (at k).naf h b.nafs (λ L l. s.nafs L l k))

  pub rows-again : ((k : ℕ) → k < n → Below 24 (at k)) → tabulate (row_from C) n ≡ tabulate at n
  unfolding tabulate
  rows-again b = up_from_ext (row_from C) at n 0 (λ k h. row-again k (omega arith) (b k (omega arith)))

-- only what passes below n counts
pub below_same : (n k : ℕ) (x y : Bool) → (k < n → x ≡ y) → ltb k n && x ≡ ltb k n && y
below_same n k x y f = ⊎_elim (λ t. rw t (f (ltb-true k n t))) (λ u. rw u) (dec (ltb k n))

-- the columns of a layout are those of any other that has the same rows below n
module _ (at at' : ℕ → Clause) (n : ℕ) (C : List ℕ) where
  pub columns_same : ((k : ℕ) → k < n → at k ≡ at' k) → Columns at n C → Columns at' n C
  columns_same e s = record {
    heads = λ L l k. s.heads L l k ∙ below_same n k _ _ (λ h. ap (λ (c : Clause). bit c.head L) (e k h));
    bodies = λ L l k. s.bodies L l k ∙ below_same n k _ _ (λ h. ap (λ (c : Clause). bit c.body L) (e k h));
    nafs = λ L l k. s.nafs L l k ∙ below_same n k _ _ (λ h. ap (λ (c : Clause). bit c.naf L) (e k h));
  }
