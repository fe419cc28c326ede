-- A walk over a head: what the literals in `rest` give, whose stand-ins stand from p on, is still to come. Assumes nothing.
use Prim.Native.Nat.{ℕ, ◌+◌, ◌^◌, ◌≤◌, ◌<◌}
use lib.Count.{count_trailing_zeros}
use lib.ListN.{length}
use mathlib.Core.List.{List, ◌++◌, flat_map}
use mathlib.Core.Path.{◌≡◌, sym, ap, ◌∙◌}
use mir.Syntax.{w64}
use mir.Val.{Fits}
use native.Mathlib.Omega.{arith}
use Rattle.literals.proofs.Literals.{low_less, lowest-small, literals_low, literals_none}
use Rattle.literals.specs.Literals.{literals, low}
use Rattle.operator.specs.Operator.{WordRule}
use Rattle.transform.specs.Transform.{Stand, numbered}
use Rattle.emission.specs.Emit.{Emits, Places}
use Rattle.emission.proofs.Emit.{Emitting, emitting_start, emitting_room, emitting_call, emitting_done}
use Rattle.fix_push.specs.Parts.{for_each}

pub record Walk (f : Stand → List WordRule) (head s : ℕ) (hs₀ bs₀ : List ℕ) (at₀ rest p : ℕ) (hs bs : List ℕ) (at : ℕ) : Type 0 where
  pub small : rest < 2 ^ 64
  pub places : p + length (literals rest) ≤ 64
  pub emits : Emitting (for_each f s head) (for_each f p rest) hs₀ bs₀ at₀ hs bs at

module _ (f : Stand → List WordRule) (head s : ℕ) (hs₀ bs₀ : List ℕ) (at₀ : ℕ) where
  pub walk_start : Fits w64 head → s + length (literals head) ≤ 64 → Places (for_each f s head) hs₀ bs₀ at₀ → Walk f head s hs₀ bs₀ at₀ head s hs₀ bs₀ at₀
  walk_start h l r = record { small = h.fits; places = l; emits = emitting_start (for_each f s head) hs₀ bs₀ at₀ r }

  module _ (rest p : ℕ) (hs bs : List ℕ) (at : ℕ) (w : Walk f head s hs₀ bs₀ at₀ rest p hs bs at) where
    first : (t : ℕ) → (rest ≡ 0 → ⊥) → t ≡ count_trailing_zeros 64 rest → for_each f p rest ≡ f (record { literal = t; at = p }) ++ for_each f (p + 1) (low rest)
    unfolding flat_map numbered
    first t n e = ap (λ (l : List ℕ). flat_map f (numbered p l)) (literals_low rest n w.small) ∙ ap (λ (u : ℕ). f (record { literal = u; at = p }) ++ for_each f (p + 1) (low rest)) (sym e)

    pub walk_literal : (t : ℕ) → (rest ≡ 0 → ⊥) → t ≡ count_trailing_zeros 64 rest → t < 64
    walk_literal t n e = lowest-small rest t n w.small e

    pub walk_place : (rest ≡ 0 → ⊥) → p < 64
    walk_place n = let l = ap length (literals_low rest n w.small) in omega (arith, w.places)

    pub walk_room : (t : ℕ) → (rest ≡ 0 → ⊥) → t ≡ count_trailing_zeros 64 rest → Places (f (record { literal = t; at = p })) hs bs at
    walk_room t n e = emitting_room (for_each f s head) (for_each f p rest) hs₀ bs₀ at₀ hs bs at w.emits (f (record { literal = t; at = p }))
        (for_each f (p + 1) (low rest)) (first t n e)

    pub walk_step : (t : ℕ) (hs' bs' : List ℕ) (r : ℕ) → (rest ≡ 0 → ⊥) → t ≡ count_trailing_zeros 64 rest → Emits (f (record { literal = t; at = p })) hs bs at hs' bs' r
        → Walk f head s hs₀ bs₀ at₀ (low rest) (p + 1) hs' bs' r
    walk_step t hs' bs' r n e c = record {
      small = omega (arith, low_less rest n, w.small);
      places = let l = ap length (literals_low rest n w.small) in omega (arith, w.places);
      emits = emitting_call (for_each f s head) (for_each f p rest) hs₀ bs₀ at₀ hs bs at w.emits (f (record { literal = t; at = p }))
          (for_each f (p + 1) (low rest)) hs' bs' r (first t n e) c;
    }

    pub walk_heads : length hs ≡ length hs₀
    walk_heads = w.emits.emits.heads

    pub walk_bodies : length bs ≡ length bs₀
    walk_bodies = w.emits.emits.bodies

    pub walk_done : rest ≡ 0 → Emits (for_each f s head) hs₀ bs₀ at₀ hs bs at
    unfolding flat_map numbered
    walk_done e = emitting_done (for_each f s head) (for_each f p rest) hs₀ bs₀ at₀ hs bs at w.emits (ap (λ (l : List ℕ). flat_map f (numbered p l)) (ap literals e ∙ literals_none))
