-- The rows in play on the way down from the root to a node. Assumes nothing.
use mathlib.Core.Path.{◌≡◌}
use mathlib.Core.List.{List}
use Prim.Native.Nat.{ℕ, suc, ◌+◌, ◌-◌, ◌/◌, ◌%◌, ◌^◌, ◌≤◌, ◌<◌}
use native.Mathlib.Nat.{mod-eq_of_lt, mod-le}
use native.Mathlib.Omega.{arith}
use lib.Bits.{bit_and}
use Rattle.columns.specs.Columns.{body_column, naf_column}
use Rattle.node.proofs.Descending.{play_first, play_second}
use Rattle.seek.specs.Seek.{OnPath, PlaysAt}
use Rattle.seek.proofs.Multiples.{rest_set, rest_clear, cut_low}

-- play are the rows in play at the node with `literal` undecided bits on the way from the root to (k, w)
pub record Going (C : List ℕ) (root top k w play literal : ℕ) : Type 0 where
  pub path : OnPath top k w
  pub above : k ≤ literal
  pub below : literal ≤ top
  pub plays : PlaysAt C root top literal (w - w % 2 ^ literal) play

module _ (C : List ℕ) (root top k w : ℕ) where
  pub way_start : OnPath top k w → Going C root top k w root top
  way_start p =
      let e : w - w % 2 ^ top ≡ 0 = omega (arith, mod-eq_of_lt p.within) in
      record { path = p; above = p.below; below = omega arith; plays = record { plays = λ at n cols start. rw e start } }

  module _ (play literal : ℕ) (g : Going C root top k w play literal) where
    pub way_done : literal ≤ k → PlaysAt C root top k w play
    way_done h =
        let e : literal ≡ k = omega (arith, g.above) in
        let o : w - w % 2 ^ k ≡ w = omega (arith, g.path.low) in
        rw (e, o) at g.plays

    module _ (h : k < literal) where
      way_few : literal - 1 < 24
      way_few = omega (arith, g.below, g.path.few)

      one_less : suc (literal - 1) ≡ literal
      one_less = omega arith

      -- the literal is decided in, or out
      pub way_in : (bit_and (w / 2 ^ (literal - 1)) 1 ≡ 0 → ⊥) → Going C root top k w (play - bit_and play (naf_column C (literal - 1))) (literal - 1)
      way_in b =
          let e : w - w % 2 ^ suc (literal - 1) + 2 ^ (literal - 1) ≡ w - w % 2 ^ (literal - 1) = omega (arith, rest_set w (literal - 1) b, mod-le w (2 ^ suc (literal - 1))) in
          record {
            path = g.path;
            above = omega arith;
            below = omega (arith, g.below);
            plays = record {
              plays = λ at n cols start.
                  rw e at (play_second at n C cols (literal - 1) (w - w % 2 ^ suc (literal - 1)) play way_few (cut_low w (suc (literal - 1))) (rw one_less (g.plays.plays at n cols start)));
            };
          }

      pub way_out : bit_and (w / 2 ^ (literal - 1)) 1 ≡ 0 → Going C root top k w (play - bit_and play (body_column C (literal - 1))) (literal - 1)
      way_out b =
          let e : w % 2 ^ suc (literal - 1) ≡ w % 2 ^ (literal - 1) = rest_clear w (literal - 1) b in
          record {
            path = g.path;
            above = omega arith;
            below = omega (arith, g.below);
            plays = record {
              plays = λ at n cols start.
                  rw e at (play_first at n C cols (literal - 1) (w - w % 2 ^ suc (literal - 1)) play way_few (cut_low w (suc (literal - 1))) (rw one_less (g.plays.plays at n cols start)));
            };
          }
