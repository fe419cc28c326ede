-- Document 02, U9: "the node test must give equal answers on both", rows and columns. Assumes nothing.
use mathlib.Core.Path.{◌≡◌, refl, sym, ap, ap₂, ◌∙◌}
use mathlib.Core.Bool.{not}
use mathlib.Core.List.{List}
use Prim.Native.Nat.{ℕ, ◌≤◌, ◌<◌}
use lib.Bits.{bit_and}
use Rattle.sets.specs.Lists.{any_of, tabulate}
use Rattle.sets.proofs.Lists.{some_same}
use Rattle.literals.specs.Literals.{members}
use Rattle.literals.proofs.Literals.{lit_out}
use Rattle.literals.proofs.Stepping.{some_asked}
use Rattle.program.specs.Clauses.{Clause, Below}
use Rattle.tree.specs.NodeTest.{violated_by, violated, possible, unsupported, told, node_test}
use Rattle.columns.specs.Columns.{head_column, row_from, Columns}
use Rattle.columns.specs.Play.{in_play, InPlay}
use Rattle.columns.proofs.Again.{row-again, rows-again, below_same, columns_same}
use Rattle.node.specs.Node.{Placed}
use Rattle.node.specs.ByColumns.{violated_in, supported_in, column_test}
use Rattle.node.proofs.Asking.{play_row, row-plays, violated-plays, lacks, lacking_all, supporter, supported_asked}

module _ (at : ℕ → Clause) (n k w play : ℕ) (C : List ℕ) (few : n ≤ 64) (placed : Placed k w) (cols : Columns at n C) (plays : InPlay at n (possible k w) w play) where
  violated_same : violated_in at play k w ≡ violated (tabulate at n) k w
  unfolding violated
  violated_same = some_asked at n (violated_by k w) (violated_by k w) play few
      (λ i t. ((play_row at n (possible k w) w play plays i t).0, refl))
      (λ i l v. row-plays at n (possible k w) w play plays i l (violated-plays k w placed.low (at i) v))

  supported_same : any_of (λ L. not (supported_in at (bit_and (head_column C L) play) w L)) (members w) ≡ unsupported (tabulate at n) k w
  supported_same =
      some_same _ (lacks at n k w) (members w) (λ L m. ap not (supported_asked at n k w play C few placed cols plays L play (lit_out w L m).1 (λ i t. t)
      (λ i l v. row-plays at n (possible k w) w play plays i l (supporter k w L (at i) v).1)))
      ∙ lacking_all at n k w play C few placed cols plays

  -- at every node the test by the rows in play and the columns is the test of all rows
  pub same_test : column_test at C play k w ≡ node_test (tabulate at n) k w
  unfolding column_test node_test
  same_test = ap₂ told violated_same supported_same

-- the same of the columns alone, from which the rows are made again
pub columns_test : (at : ℕ → Clause) (n k w play : ℕ) (C : List ℕ) → n ≤ 64 → Placed k w → Columns at n C → InPlay at n (possible k w) w play
    → ((i : ℕ) → i < n → Below 24 (at i)) → column_test (row_from C) C play k w ≡ node_test (tabulate at n) k w
columns_test at n k w play C few placed cols plays below =
    let same : (i : ℕ) → i < n → at i ≡ row_from C i = λ i l. sym (row-again at n C cols i l (below i l)) in
    same_test (row_from C) n k w play C few placed (columns_same at (row_from C) n C same cols)
    (record { exactly = λ i. plays.exactly i ∙ below_same n i _ _ (λ l. ap (in_play (possible k w) w) (same i l)) })
    ∙ ap (λ P. node_test P k w) (rows-again at n C cols below)
