-- What the recursion hands down: to the root, to the children of a node, and to a second child that the search resumes at. Assumes nothing.
use mathlib.Core.Path.{◌≡◌, refl, sym, ap, ◌∙◌}
use mathlib.Core.Bool.{Bool, false}
use mathlib.Core.List.{List}
use Prim.Native.Nat.{ℕ, zero, suc, ◌+◌, ◌-◌, ◌*◌, ◌%◌, ◌^◌, ◌≤◌, ◌<◌}
use native.Mathlib.Nat.{pow-suc, zero-mod}
use native.Mathlib.Numerals.{add-one, sub-one}
use native.Mathlib.Omega.{arith}
use lib.Bits.{bit_and}
use lib.Pow.{pow_pos, pow_mono}
use Rattle.sets.specs.Lists.{tabulate}
use Rattle.program.specs.Clauses.{Clause}
use Rattle.tree.specs.NodeTest.{possible, dead}
use Rattle.tree.proofs.Nodes.{low_out, low_in}
use Rattle.columns.specs.Columns.{Columns, body_column, naf_column, mentioned_in}
use Rattle.columns.specs.Play.{InPlay}
use Rattle.node.specs.Node.{Placed, AtNode, Handed}
use Rattle.node.proofs.Descending.{handed_first, handed-second}
use Rattle.seek.specs.Seek.{SoughtBelow, OnPath, PlaysAt, SecondOf}
use Rattle.seek.proofs.Multiples.{apart_by, pow_low}

-- ---- the children of a node
halved : (k : ℕ) → (k ≡ 0 → ⊥) → 2 ^ k ≡ 2 ^ (k - 1) * 2
halved zero h = absurd (h refl)
halved (suc k) h = pow-suc 2 k ∙ ap (λ m. 2 ^ m * 2) (sym (sub-one (suc k)))

before : (k : ℕ) → (k ≡ 0 → ⊥) → suc (k - 1) ≡ k
before k h = omega arith

pub placed_out : (k w : ℕ) → Placed k w → (k ≡ 0 → ⊥) → Placed (k - 1) w
placed_out k w p h = record {
  few = omega (arith, p.few);
  low = low_out (k - 1) w (rw (before k h) p.low);
  fits = omega (arith, p.fits, halved k h);
}

placed_in : (k w v : ℕ) → Placed k w → (k ≡ 0 → ⊥) → v ≡ w + 2 ^ (k - 1) → Placed (k - 1) v
placed_in k w v p h e = rw e (record {
  few = omega (arith, p.few);
  low = low_in (k - 1) w (rw (before k h) p.low);
  fits = omega (arith, p.fits, halved k h);
})

-- what is handed to the first child, and to the second
module _ (count k w reach bit : ℕ) (h : AtNode count k w reach) (inner : k ≡ 0 → ⊥) (e : bit ≡ 2 ^ (k - 1)) where
  pub bit_fits : bit ≤ reach
  bit_fits = omega (arith, h.reaches, halved k inner, pow_pos (k - 1))

  pub at_first : AtNode count (k - 1) w (reach - bit)
  at_first = record { short = h.short; placed = placed_out k w h.placed inner; reaches = omega (arith, h.reaches, halved k inner, pow_pos (k - 1)) }

  pub at_second : AtNode count (k - 1) (w + bit) reach
  at_second = record {
    short = h.short;
    placed = placed_in k w (w + bit) h.placed inner (ap (λ x. w + x) e);
    reaches = omega (arith, h.reaches, halved k inner, pow_pos (k - 1));
  }

  pub word_fits : w + bit < 2 ^ 32
  word_fits = omega (arith, h.placed.fits, halved k inner, pow_pos (k - 1))

  -- of the rows, where the node is alive
  module _ (at : ℕ → Clause) (C : List ℕ) (cols : Columns at count C) (play mentioned : ℕ) (g : Handed at count k w play mentioned)
      {d : Bool} (f : d ≡ dead (tabulate at count) k w) (live : d ≡ false) (m : ℕ) (q : m ≡ mentioned_in C (k - 1)) where
    pub rows_first : Handed at count (k - 1) w (play - bit_and play (body_column C (k - 1))) (bit_and m play)
    rows_first = rw q (handed_first at count C cols (k - 1) w play (omega (arith, h.placed.few, inner)) (rw (before k inner) h.placed.low)
        (rw (before k inner) g.plays) (rw (before k inner) (sym f ∙ live)))

    pub rows-second : Handed at count (k - 1) (w + bit) (play - bit_and play (naf_column C (k - 1))) (bit_and m play)
    rows-second = rw (q, e) (handed-second at count C cols (k - 1) w play (omega (arith, h.placed.few, inner)) (rw (before k inner) h.placed.low)
        (rw (before k inner) g.plays) (rw (before k inner) (sym f ∙ live)))

pub leaf_small : (count k w reach : ℕ) → AtNode count k w reach → w < 2 ^ 24
leaf_small count k w reach h = omega (arith, h.placed.fits, pow_pos k)

-- at a leaf nothing is undecided
pub leaf_plays : (at : ℕ → Clause) (n k w play mentioned : ℕ) → Handed at n k w play mentioned → k ≡ 0 → InPlay at n w w play
leaf_plays at n k w play mentioned g z = let e : possible k w ≡ w = omega (arith, ap (λ j. 2 ^ j) z) in rw e at g.plays

-- ---- the root
pub placed_root : (n : ℕ) → n ≤ 12 → Placed (2 * n) 0
placed_root n h = record {
  few = omega arith;
  low = zero-mod (2 ^ (2 * n));
  fits = omega (arith, pow_mono {i = 2 * n} {j = 24} (omega arith));
}

pub at_root : (count n reach : ℕ) → count ≤ 64 → n ≤ 12 → reach ≡ 0 + (2 ^ (2 * n) - 1) → AtNode count (2 * n) 0 reach
at_root count n reach short few e = record { short = short; placed = placed_root n few; reaches = e }

pub root_plays : (at : ℕ → Clause) (n k reach play : ℕ) → reach ≡ 0 + (2 ^ k - 1) → InPlay at n reach 0 play → InPlay at n (possible k 0) 0 play
root_plays at n k reach play e p = rw e at p

-- ---- the second child of (k + 1, w), which the search resumes at
pub pow_back : (k bit : ℕ) → bit ≡ 2 ^ (k + 1 - 1) → bit ≡ 2 ^ k
pow_back k bit e = let j : k + 1 - 1 ≡ k = omega arith in rw j at e

pub second-placed : (top k w : ℕ) → OnPath top (k + 1) w → Placed k (w + 2 ^ k)
second-placed top k w p =
    let low : w % 2 ^ suc k ≡ 0 = rw add-one at p.low in
    record {
      few = omega (arith, p.below, p.few);
      low = low_in k w low;
      fits = omega (arith, apart_by (suc k) w (2 ^ top) low (pow_low (suc k) top (omega (arith, p.below))) p.within, pow_mono p.few, pow-suc 2 k);
    }

module _ (at : ℕ → Clause) (n : ℕ) (C : List ℕ) (root top k w : ℕ) (s : SecondOf at n C root top k w) (bit : ℕ) (e : bit ≡ 2 ^ (k + 1 - 1)) where
  is_pow : bit ≡ 2 ^ k
  is_pow = pow_back k bit e

  pub second_one : 1 ≤ bit
  second_one = omega (arith, is_pow, pow_pos k)

  pub second_word : w + bit < 2 ^ 32
  second_word = omega (arith, (second-placed top k w s.path).fits, is_pow)

  pub second_fits : w + bit + (bit - 1) < 2 ^ 32
  second_fits = omega (arith, (second-placed top k w s.path).fits, is_pow)

  pub second_at : AtNode n k (w + bit) (w + bit + (bit - 1))
  second_at = rw is_pow (record { short = s.short; placed = second-placed top k w s.path; reaches = refl })

  pub second-handed : (play m : ℕ) → PlaysAt C root top (k + 1) w play → m ≡ mentioned_in C k → Handed at n k (w + bit) (play - bit_and play (naf_column C k)) (bit_and m play)
  second-handed play m p q =
      let few : k < 24 = omega (arith, s.path.below, s.path.few) in
      let low : w % 2 ^ suc k ≡ 0 = rw add-one at s.path.low in
      let plays : InPlay at n (possible (suc k) w) w play = rw add-one at (p.plays at n s.columns s.plays) in
      rw (is_pow, q) (handed-second at n C s.columns k w play few low plays (rw add-one at s.alive))

  pub second-sought : (P : List Clause) (A v r v' : ℕ) → SoughtBelow P k (w + bit) A v r v' → SoughtBelow P k (w + 2 ^ k) A v r v'
  second-sought P A v r v' h = rw is_pow at h
