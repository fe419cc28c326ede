-- The loops that put out the transformed clauses: one law for each that says what a step needs, and one for what it gives. Assumes nothing.
use Prim.Native.Nat.{ℕ, ◌+◌, ◌*◌, ◌^◌, ◌%◌, ◌<◌}
use borrow.Author.Tests.{eq-eqb, ne_eqb}
use lib.Bits.{bit_or, or_zero_r}
use lib.Count.{count_trailing_zeros}
use lib.Dec.{lit<}
use lib.Pow.{shl_exact}
use mathlib.Core.List.{List, [], ◌∷◌, ◌++◌, flat_map}
use mathlib.Core.Path.{◌≡◌, refl, sym, ap, ap₂, ◌∙◌, subst}
use mir.Syntax.{w64}
use mir.Val.{Fits}
use native.Mathlib.Nat.{one-mul}
use native.Mathlib.Omega.{arith}
use Rattle.sets.specs.Words.{mask}
use Rattle.literals.proofs.Literals.{literals-few}
use Rattle.literals.specs.Literals.{literals, low}
use Rattle.operator.specs.Operator.{WordRule}
use Rattle.emission.specs.Emit.{Emits, Places}
use Rattle.emission.proofs.Emit.{emits_none, emits_as, room_one, room_as, room_first, room_then, emits_then, Emitting}
use Rattle.fix_push.proofs.Walk.{Walk, walk_start, walk_room, walk_step}
use Rattle.fix_push.specs.Parts.{for_each, one_b, one_c, each_c, each_d}
use Rattle.transform.specs.Transform.{Stand, numbered, clause_b, clause_c, clause_d}

-- ---- words

pub single_is : (t : ℕ) → t < 64 → 1 * 2 ^ t % 2 ^ 64 ≡ mask (t ∷ [])
unfolding mask
single_is t h = shl_exact 1 t 64 (lit< tt) (omega arith) ∙ one-mul (2 ^ t) ∙ sym (or_zero_r (2 ^ t))

pub couple_is : (t u x y : ℕ) → x ≡ mask (t ∷ []) → y ≡ mask (u ∷ []) → bit_or x y ≡ mask (t ∷ u ∷ [])
unfolding mask
couple_is t u x y p q = ap₂ bit_or (p ∙ or_zero_r (2 ^ t)) q

-- ---- one clause

pub b_is : (t p h b : ℕ) (hs bs : List ℕ) (at : ℕ) (hs' bs' : List ℕ) (r : ℕ) → h ≡ mask (t ∷ []) → b ≡ mask (p ∷ []) → Emits (record { head = h; body = b } ∷ []) hs bs at hs' bs' r
    → Emits (one_b (record { literal = t; at = p })) hs bs at hs' bs' r
unfolding one_b
b_is t p h b hs bs at hs' bs' r e f g = emits_as _ _ hs bs at hs' bs' r (ap₂ (λ (x y : ℕ). record { head = x; body = y } ∷ []) e f) g

pub c_is : (a t b : ℕ) (hs bs : List ℕ) (at : ℕ) (hs' bs' : List ℕ) (r : ℕ) → b ≡ mask (a ∷ t ∷ []) → Emits (record { head = 0; body = b } ∷ []) hs bs at hs' bs' r
    → Emits (one_c a (record { literal = t; at = 0 })) hs bs at hs' bs' r
unfolding one_c mask
c_is a t b hs bs at hs' bs' r e g = emits_as _ _ hs bs at hs' bs' r (ap (λ (y : ℕ). record { head = 0; body = y } ∷ []) e) g

-- (b) and (c) are one clause each
pub b_there : (p : Stand) (d : WordRule) (hs bs : List ℕ) (at : ℕ) → Places (one_b p) hs bs at → Places (d ∷ []) hs bs at
unfolding one_b
b_there p d hs bs at r = room_one (clause_b p) d hs bs at r

pub c_there : (a : ℕ) (n : Stand) (d : WordRule) (hs bs : List ℕ) (at : ℕ) → Places (one_c a n) hs bs at → Places (d ∷ []) hs bs at
unfolding one_c
c_there a n d hs bs at r = room_one (clause_c a n.literal) d hs bs at r

-- (d) is none for a literal and its own stand-in
module _ (t p u q : ℕ) (hs bs : List ℕ) (at : ℕ) where
  pub d_none : t ≡ u → Emits (clause_d (record { literal = t; at = p }) (record { literal = u; at = q })) hs bs at hs bs at
  d_none e = emits_as [] (clause_d (record { literal = t; at = p }) (record { literal = u; at = q })) hs bs at hs bs at (sym (rw (eq-eqb t u e))) (emits_none hs bs at)

  two_apart : (t ≡ u → ⊥) → clause_d (record { literal = t; at = p }) (record { literal = u; at = q }) ≡ record { head = mask (p ∷ []); body = mask (t ∷ q ∷ []) } ∷ []
  two_apart n = rw (ne_eqb t u n)

  pub d_there : (d : WordRule) → (t ≡ u → ⊥) → Places (clause_d (record { literal = t; at = p }) (record { literal = u; at = q })) hs bs at → Places (d ∷ []) hs bs at
  d_there d n r = room_one _ d hs bs at (room_as _ _ hs bs at (two_apart n) r)

  pub d_is : (h b : ℕ) (hs' bs' : List ℕ) (r : ℕ) → (t ≡ u → ⊥) → h ≡ mask (p ∷ []) → b ≡ mask (t ∷ q ∷ []) → Emits (record { head = h; body = b } ∷ []) hs bs at hs' bs' r
      → Emits (clause_d (record { literal = t; at = p }) (record { literal = u; at = q })) hs bs at hs' bs' r
  d_is h b hs' bs' r n e f g = emits_as _ _ hs bs at hs' bs' r (ap₂ (λ (x y : ℕ). record { head = x; body = y } ∷ []) e f ∙ sym (two_apart n)) g

-- ---- three parts, each behind what stands

module _ (X Y Z : List WordRule) (hs bs : List ℕ) (at : ℕ) (hs' bs' : List ℕ) (n : ℕ) where
  pub second_room : Places (X ++ (Y ++ Z)) hs bs at → Emits X hs bs at hs' bs' n → Places Y hs' bs' n
  second_room r e = room_first Y Z hs' bs' n (room_then X (Y ++ Z) hs bs at hs' bs' n r e)

  module _ (hs'' bs'' : List ℕ) (k : ℕ) where
    pub third_room : Places (X ++ (Y ++ Z)) hs bs at → Emits X hs bs at hs' bs' n → Emits Y hs' bs' n hs'' bs'' k → Places Z hs'' bs'' k
    third_room r e d = room_then Y Z hs' bs' n hs'' bs'' k (room_then X (Y ++ Z) hs bs at hs' bs' n r e) d

    pub three_are : (hs''' bs''' : List ℕ) (r : ℕ) → Emits X hs bs at hs' bs' n → Emits Y hs' bs' n hs'' bs'' k → Emits Z hs'' bs'' k hs''' bs''' r → Emits (X ++ (Y ++ Z)) hs bs at hs''' bs''' r
    three_are hs''' bs''' r e d f = emits_then X (Y ++ Z) hs bs at hs' bs' n hs''' bs''' r e (emits_then Y Z hs' bs' n hs'' bs'' k hs''' bs''' r d f)

-- ---- the walk of (b)

module _ (head s : ℕ) (hs₀ bs₀ : List ℕ) (at₀ rest p : ℕ) (hs bs : List ℕ) (at : ℕ) (w : Walk one_b head s hs₀ bs₀ at₀ rest p hs bs at) where
  pub b_room : (t : ℕ) → (rest ≡ 0 → ⊥) → t ≡ count_trailing_zeros 64 rest → Places (one_b (record { literal = t; at = p })) hs bs at
  b_room t n e = walk_room one_b head s hs₀ bs₀ at₀ rest p hs bs at w t n e

-- ---- the walk of (c) for one stand-in, which does not mind the numbering

renumber : (a : ℕ) (l : List ℕ) (p q : ℕ) → flat_map (one_c a) (numbered p l) ≡ flat_map (one_c a) (numbered q l)
unfolding flat_map numbered one_c
renumber a [] p q = refl
renumber a (x ∷ l) p q = ap (λ (R : List WordRule). clause_c a x ∷ R) (renumber a l (p + 1) (q + 1))

module _ (a naf : ℕ) (hs₀ bs₀ : List ℕ) (at₀ : ℕ) where
  pub run_start : Fits w64 naf → Places (for_each (one_c a) 0 naf) hs₀ bs₀ at₀ → Walk (one_c a) naf 0 hs₀ bs₀ at₀ naf 0 hs₀ bs₀ at₀
  run_start h r = walk_start (one_c a) naf 0 hs₀ bs₀ at₀ h (let b = literals-few naf h.fits in omega arith) r

  pub run_step : (rest : ℕ) (hs bs : List ℕ) (at t : ℕ) (hs' bs' : List ℕ) (r : ℕ) → Walk (one_c a) naf 0 hs₀ bs₀ at₀ rest 0 hs bs at → (rest ≡ 0 → ⊥) → t ≡ count_trailing_zeros 64 rest
      → Emits (one_c a (record { literal = t; at = 0 })) hs bs at hs' bs' r → Walk (one_c a) naf 0 hs₀ bs₀ at₀ (low rest) 0 hs' bs' r
  run_step rest hs bs at t hs' bs' r w n e c =
      let v = walk_step (one_c a) naf 0 hs₀ bs₀ at₀ rest 0 hs bs at w t hs' bs' r n e c in
      record {
        small = v.small;
        places = let b = literals-few (low rest) v.small in omega arith;
        emits = subst (λ (R : List WordRule). Emitting (for_each (one_c a) 0 naf) R hs₀ bs₀ at₀ hs' bs' r) (renumber a (literals (low rest)) (0 + 1) 0) v.emits;
      }

  pub run_room : (rest : ℕ) (hs bs : List ℕ) (at t : ℕ) → Walk (one_c a) naf 0 hs₀ bs₀ at₀ rest 0 hs bs at → (rest ≡ 0 → ⊥) → t ≡ count_trailing_zeros 64 rest
      → Places (one_c a (record { literal = t; at = 0 })) hs bs at
  run_room rest hs bs at t w n e = walk_room (one_c a) naf 0 hs₀ bs₀ at₀ rest 0 hs bs at w t n e

-- ---- a walk whose clauses are a callee's

module _ (naf head s : ℕ) (hs₀ bs₀ : List ℕ) (at₀ rest p : ℕ) (hs bs : List ℕ) (at : ℕ) (w : Walk (each_c naf) head s hs₀ bs₀ at₀ rest p hs bs at) where
  pub c_room : (rest ≡ 0 → ⊥) → Places (for_each (one_c p) 0 naf) hs bs at
  unfolding each_c
  c_room n = walk_room (each_c naf) head s hs₀ bs₀ at₀ rest p hs bs at w (count_trailing_zeros 64 rest) n refl

  pub c_step : (hs' bs' : List ℕ) (r : ℕ) → (rest ≡ 0 → ⊥) → Emits (for_each (one_c p) 0 naf) hs bs at hs' bs' r → Walk (each_c naf) head s hs₀ bs₀ at₀ (low rest) (p + 1) hs' bs' r
  unfolding each_c
  c_step hs' bs' r n c = walk_step (each_c naf) head s hs₀ bs₀ at₀ rest p hs bs at w (count_trailing_zeros 64 rest) hs' bs' r n refl c

module _ (head s : ℕ) (hs₀ bs₀ : List ℕ) (at₀ rest p : ℕ) (hs bs : List ℕ) (at : ℕ) (w : Walk (each_d head s) head s hs₀ bs₀ at₀ rest p hs bs at) where
  pub d_room : (t : ℕ) → (rest ≡ 0 → ⊥) → t ≡ count_trailing_zeros 64 rest → Places (for_each (clause_d (record { literal = t; at = p })) s head) hs bs at
  unfolding each_d
  d_room t n e = walk_room (each_d head s) head s hs₀ bs₀ at₀ rest p hs bs at w t n e

  pub d_step : (t : ℕ) (hs' bs' : List ℕ) (r : ℕ) → (rest ≡ 0 → ⊥) → t ≡ count_trailing_zeros 64 rest → Emits (for_each (clause_d (record { literal = t; at = p })) s head) hs bs at hs' bs' r
      → Walk (each_d head s) head s hs₀ bs₀ at₀ (low rest) (p + 1) hs' bs' r
  unfolding each_d
  d_step t hs' bs' r n e c = walk_step (each_d head s) head s hs₀ bs₀ at₀ rest p hs bs at w t hs' bs' r n e c

-- ---- the walk of (d) for one head literal

module _ (x : Stand) (head s : ℕ) (hs₀ bs₀ : List ℕ) (at₀ rest p : ℕ) (hs bs : List ℕ) (at : ℕ) (w : Walk (clause_d x) head s hs₀ bs₀ at₀ rest p hs bs at) where
  pub pair_room : (t : ℕ) → (rest ≡ 0 → ⊥) → t ≡ count_trailing_zeros 64 rest → Places (clause_d x (record { literal = t; at = p })) hs bs at
  pair_room t n e = walk_room (clause_d x) head s hs₀ bs₀ at₀ rest p hs bs at w t n e
