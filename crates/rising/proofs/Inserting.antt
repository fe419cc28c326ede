-- The loops of an insertion: the place is looked for by halves, and the members behind it move up. Assumes nothing.
use Prim.Native.Nat.{ℕ, ◌+◌, ◌-◌, ◌/◌, ◌≤◌, ◌<◌}
use borrow.Author.Rules.{rules}
use lib.ListN.{length, get_or, take, set, length-set}
use lib.Seq.{length-take-le, get_or-take}
use mathlib.Core.List.{List}
use mathlib.Core.Path.{◌≡◌, refl, ap, ◌∙◌}
use native.Mathlib.Omega.{arith}
use Rattle.sets.specs.Lists.{Rising}
use Rattle.rising.proofs.RisingSets.{rank_within, rank_low, rank_high}
use Rattle.rising.proofs.Slices.{opened_none, opened_one, stands_in, stands_out, inserted_present, inserted_over, inserted_new, place_there}
use Rattle.rising.specs.RisingSets.{rank}
use Rattle.rising.specs.Slices.{opened}

-- the place of x in the first `count` members lies between lo and hi
pub record Bracket (xs : List ℕ) (count x lo hi : ℕ) : Type 0 where
  pub fits : count ≤ length xs
  pub rises : Rising (take count xs)
  pub low : lo ≤ rank x (take count xs)
  pub high : rank x (take count xs) ≤ hi
  pub end : hi ≤ count

module _ (xs : List ℕ) (count x : ℕ) where
  pub bracket_start : (count ≤ length xs) × Rising (take count xs) → Bracket xs count x 0 count
  bracket_start p = record {
    fits = p.0;
    rises = p.1;
    low = omega arith;
    high = omega (arith, rank_within x (take count xs), length-take-le count xs p.0);
    end = omega arith;
  }

  module _ (lo hi : ℕ) (b : Bracket xs count x lo hi) (h : lo < hi) where
    inside : (lo + (hi - lo) / 2 < count) × (lo + (hi - lo) / 2 < length (take count xs))
    inside = (omega (arith, b.end), omega (arith, b.end, length-take-le count xs b.fits))

    pub bracket_right : get_or xs (lo + (hi - lo) / 2) 0 < x → Bracket xs count x (lo + (hi - lo) / 2 + 1) hi
    bracket_right k =
        let e = get_or-take count xs (lo + (hi - lo) / 2) 0 inside.0 in
        record {
          fits = b.fits;
          rises = b.rises;
          low = rank_high x (take count xs) (lo + (hi - lo) / 2) b.rises inside.1 (omega arith);
          high = b.high;
          end = b.end;
        }

    pub bracket_left : x ≤ get_or xs (lo + (hi - lo) / 2) 0 → Bracket xs count x lo (lo + (hi - lo) / 2)
    bracket_left k =
        let e = get_or-take count xs (lo + (hi - lo) / 2) 0 inside.0 in
        record {
          fits = b.fits;
          rises = b.rises;
          low = b.low;
          high = rank_low x (take count xs) (lo + (hi - lo) / 2) inside.1 (omega arith);
          end = omega (arith, inside.0);
        }

  pub bracket_done : (lo hi : ℕ) → Bracket xs count x lo hi → hi ≤ lo → (lo ≡ rank x (take count xs)) × (lo ≤ count)
  bracket_done lo hi b h = (omega (arith, b.low, b.high), omega (arith, b.low, b.high, b.end))

-- the members from p to count stand one place up
pub record Opening (xs : List ℕ) (at count : ℕ) (ys : List ℕ) (p : ℕ) : Type 0 where
  pub low : at ≤ p
  pub high : p ≤ count
  pub room : count < length xs
  pub long : length ys ≡ length xs
  pub same : ys ≡ opened xs p count

module _ (xs : List ℕ) (at count : ℕ) where
  pub open_start : (at ≤ count) × (count < length xs) → Opening xs at count xs count
  open_start p = record { low = p.0; high = omega arith; room = p.1; long = refl; same = opened_none xs count p.1 }

  pub open_step : (ys : List ℕ) (p : ℕ) → Opening xs at count ys p → at < p → Opening xs at count (set ys p (get_or ys (p - 1) 0)) (p - 1)
  open_step ys p o h =
      let e : p ≡ p - 1 + 1 = omega arith in
      record {
        low = omega arith;
        high = omega (arith, o.high);
        room = o.room;
        long = length-set ys p (get_or ys (p - 1) 0) ∙ o.long;
        same = ap (λ (l : List ℕ). set l p (get_or l (p - 1) 0)) o.same
            ∙ ap (λ (k : ℕ). set (opened xs k count) k (get_or (opened xs k count) (p - 1) 0)) e
            ∙ opened_one xs count o.room (p - 1) (omega (arith, o.high));
      }

  pub open_done : (ys : List ℕ) (p : ℕ) → Opening xs at count ys p → p ≤ at → ys ≡ opened xs at count
  open_done ys p o h = let e : p ≡ at = omega (arith, o.low) in o.same ∙ ap (λ (k : ℕ). opened xs k count) e

pub ruleset placing = (bracket_start, bracket_right, bracket_left, bracket_done, rules)

pub ruleset opening = (open_start, open_step, open_done, rules)

pub ruleset inserting = (stands_in, stands_out, inserted_present, inserted_over, inserted_new, place_there, rules)
