-- The name in a place of eight bytes: its length, and that it is the front of the place. Assumes nothing.
use mathlib.Core.Path.{◌≡◌, sym, ap, ◌∙◌}
use mathlib.Core.List.{List}
use Prim.Native.Nat.{ℕ, ◌+◌, ◌-◌, ◌*◌, ◌≤◌}
use native.Mathlib.Omega.{arith}
use lib.ListN.{length, take, drop, length-take}
use lib.Seq.{length-take-le, take-take}
use Rattle.lists.specs.Bytes.{index, EndsAt, Wrote}
use Rattle.lists.proofs.Pieces.{index_le}
use Rattle.program.specs.Names.{place, name_at}
use Rattle.program.proofs.Places.{end_zero, place_part}
use Rattle.lines.specs.Laying.{Spans}

module _ (xs : List ℕ) (i : ℕ) where
  name_long : length (name_at xs i) ≡ index 0 (place xs i)
  unfolding name_at
  name_long = length-take-le (index 0 (place xs i)) (place xs i) (index_le 0 (place xs i))

  pub name_most : length (name_at xs i) ≤ 8
  unfolding place
  name_most = omega (arith, name_long, index_le 0 (place xs i), length-take 8 (drop (8 * i) xs))

  pub name_spans : (k : ℕ) → EndsAt (take (8 * i + 8 - 8 * i) (drop (8 * i) xs)) 0 0 k → Spans (name_at xs i) 8 k
  name_spans k e =
      let q : k ≡ length (name_at xs i) = e.is ∙ end_zero 0 _ ∙ ap (index 0) (place_part xs i) ∙ sym name_long in
      record { is = q; small = omega (arith, name_most) }

  module _ (k : ℕ) (s : Spans (name_at xs i) 8 k) where
    name_part : take (8 * i + k - 8 * i) (drop (8 * i) xs) ≡ name_at xs i
    unfolding name_at place
    name_part =
        let j = index 0 (take 8 (drop (8 * i) xs)) in
        let q : 8 * i + k - 8 * i ≡ j = omega (arith, s.is, name_long) in
        rw q (sym (take-take j 8 (drop (8 * i) xs) (omega (arith, index_le 0 (take 8 (drop (8 * i) xs)), length-take 8 (drop (8 * i) xs)))))

    pub name_room : (out : List ℕ) → length (name_at xs i) ≤ length out → length (take (8 * i + k - 8 * i) (drop (8 * i) xs)) ≤ length out
    name_room out h = rw name_part h

    pub name_wrote : (r : ℕ) (out ys : List ℕ) → Wrote (take (8 * i + k - 8 * i) (drop (8 * i) xs)) out r ys → Wrote (name_at xs i) out r ys
    name_wrote r out ys w = rw (← name_part) w
