-- One clause put out: the words of (a), what a clause becomes as parts in their order, and the ways that its routines return. Assumes nothing.
use Prim.Native.Nat.{ℕ, suc, ◌+◌, ◌-◌, ◌*◌, ◌^◌, ◌%◌, ◌≤◌, ◌<◌}
use borrow.Author.Tests.{eq-eqb, ne_eqb}
use lib.Bits.{bit_or, or_shifted_r}
use lib.Count.{ones, ones-le}
use lib.Dec.{lit<}
use lib.ListN.{length}
use lib.Pow.{shl_exact, pow_mono, pow_pos}
use mathlib.Core.List.{List, [], ◌∷◌, ◌++◌, map, flat_map}
use mathlib.Core.Path.{◌≡◌, refl, sym, ap, ap₂, ◌∙◌}
use mir.Syntax.{w32, w64}
use mir.Val.{Fits}
use native.Mathlib.Nat.{lt_of_lt_of_le, zero-mul, one-mul, add-mul, mul_assoc, mul_comm, pow-suc}
use native.Mathlib.Numerals.{add-one}
use native.Mathlib.Omega.{arith}
use Rattle.epistemic.proofs.Masks.{mask_unmask}
use Rattle.epistemic.proofs.Slots.{mask-++, mask_shift}
use Rattle.program.specs.Clauses.{clause_of}
use Rattle.sets.specs.Words.{mask}
use Rattle.literals.proofs.Literals.{literals_low, literals_none, literals-length}
use Rattle.literals.specs.Literals.{literals}
use Rattle.operator.specs.Operator.{WordRule}
use Rattle.emission.proofs.Emit.{emits_as, room_as, room_one, room_first, room_then, emits_then}
use Rattle.transform.proofs.Theory.{literals_unmask}
use Rattle.emission.specs.Emit.{Emits, Places}
use Rattle.fix_push.specs.Parts.{for_each, one_b, one_c, each_c, each_d}
use Rattle.rewriting.specs.Rewriting.{stand_mask, head_a, rewritten_from, Rewrites, Takes}
use Rattle.transform.specs.Transform.{Stand, numbered, clause_b, clause_c, clause_d, rewritten, becomes}
use Rattle.vocabulary.proofs.Counting.{some-stand_ins}

-- ---- the word of the stand-ins: so many ones, s places up

ones_up : (n s : ℕ) → (2 ^ n - 1) * 2 ^ (s + 1) + 2 ^ s ≡ (2 ^ suc n - 1) * 2 ^ s
ones_up n s =
    let e : 2 ^ suc n - 1 ≡ (2 ^ n - 1) * 2 + 1 = omega (arith, pow-suc 2 n, pow_pos n) in
    let f : 2 ^ (s + 1) ≡ 2 * 2 ^ s = ap (λ (k : ℕ). 2 ^ k) (add-one s) ∙ pow-suc 2 s ∙ mul_comm (2 ^ s) 2 in
    sym (ap (λ (k : ℕ). k * 2 ^ s) e ∙ add-mul ((2 ^ n - 1) * 2) 1 (2 ^ s)
    ∙ ap₂ (λ (x y : ℕ). x + y) (mul_assoc (2 ^ n - 1) 2 (2 ^ s) ∙ ap (λ (k : ℕ). (2 ^ n - 1) * k) (sym f)) (one-mul (2 ^ s)))

row-mask : (l : List ℕ) (s : ℕ) → mask (map (λ (p : Stand). p.at) (numbered s l)) ≡ (2 ^ length l - 1) * 2 ^ s
unfolding mask numbered
row-mask [] s = sym (zero-mul (2 ^ s))
row-mask (x ∷ l) s = ap (bit_or (2 ^ s)) (row-mask l (s + 1))
    ∙ or_shifted_r (2 ^ length l - 1) (s + 1) (2 ^ s) (let p = pow_pos s in omega (arith, ap (λ (k : ℕ). 2 ^ k) (add-one s) ∙ pow-suc 2 s)) ∙ ones_up (length l) s

module _ (head : ℕ) (f : Fits w32 head) where
  count : length (literals head) ≡ ones head
  count = literals-length head (omega (arith, f.fits))

  pub ones_few : ones head < 64
  ones_few = omega (arith, ones-le 32 head f.fits)

  pub ones_fit : Fits w64 (ones head)
  ones_fit = record { fits = omega (arith, ones_few) }

  pub ones_some : 1 ≤ 1 * 2 ^ ones head % 2 ^ 64
  ones_some = let p = pow_pos (ones head) in omega (arith, shl_exact 1 (ones head) 64 (lit< tt) (omega (arith, ones_few)) ∙ one-mul (2 ^ ones head))

pub no_stands : (head s : ℕ) → head ≡ 0 → 0 ≡ stand_mask s head
unfolding stand_mask mask numbered
no_stands head s e = sym (ap (λ (l : List ℕ). mask (map (λ (p : Stand). p.at) (numbered s l))) (ap literals e ∙ literals_none))

module _ (head s : ℕ) (f : Fits w32 head) (n : head ≡ 0 → ⊥) (h : s + length (literals head) ≤ 64) where
  pub stands_up : s < 64
  stands_up = let l = ap length (literals_low head n (omega (arith, f.fits))) in omega arith

  pub stands_are : (1 * 2 ^ ones head % 2 ^ 64 - 1) * 2 ^ s % 2 ^ 64 ≡ stand_mask s head
  unfolding stand_mask
  stands_are =
      let p = pow_pos (ones head) in
      ap (λ (x : ℕ). (x - 1) * 2 ^ s % 2 ^ 64) (shl_exact 1 (ones head) 64 (lit< tt) (omega (arith, ones_few head f)) ∙ one-mul (2 ^ ones head))
      ∙ shl_exact (ones head) s 64 (omega arith) (omega (arith, count head f)) ∙ ap (λ (k : ℕ). (2 ^ k - 1) * 2 ^ s) (sym (count head f)) ∙ sym (row-mask (literals head) s)

-- ---- the other words of the clause

pub mask_literals : (w : ℕ) → w < 2 ^ 64 → mask (literals w) ≡ w
mask_literals w h = ap mask (sym (literals_unmask 64 w (omega arith) h)) ∙ mask_unmask 64 w h

small-naf : (m naf : ℕ) → m ≤ 32 → naf < 2 ^ m → naf < 2 ^ 64
small-naf m naf h k = let l : m ≤ 64 = omega arith in lt_of_lt_of_le k (pow_mono l)

pub beliefs_are : (m naf : ℕ) → m ≤ 32 → naf < 2 ^ m → naf * 2 ^ m % 2 ^ 64 ≡ mask (map (λ n. m + n) (literals naf))
beliefs_are m naf h k = shl_exact m m 64 k (omega arith) ∙ sym (ap (λ (l : List ℕ). mask (map (λ n. m + n) l))
    (sym (literals_unmask 64 naf (omega arith) (small-naf m naf h k))) ∙ mask_shift m 64 naf (small-naf m naf h k))

pub head_is : (m s head naf x y : ℕ) → x ≡ stand_mask s head → y ≡ mask (map (λ n. m + n) (literals naf)) → bit_or x y ≡ head_a m s head naf
unfolding stand_mask head_a
head_is m s head naf x y e f = ap₂ bit_or e f ∙ sym (mask-++ (map (λ (p : Stand). p.at) (numbered s (literals head))) (map (λ n. m + n) (literals naf)))

-- ---- a clause with a not-part: (a), (b), (c), (d) in this order

all_b : (S : List Stand) → map clause_b S ≡ flat_map one_b S
unfolding flat_map one_b
all_b [] = refl
all_b (p ∷ S) = ap (λ (R : List WordRule). clause_b p ∷ R) (all_b S)

one_c_lem : (a : ℕ) (N : List ℕ) (k : ℕ) → map (clause_c a) N ≡ flat_map (one_c a) (numbered k N)
unfolding flat_map one_c numbered
one_c_lem a [] k = refl
one_c_lem a (n ∷ N) k = ap (λ (R : List WordRule). clause_c a n ∷ R) (one_c_lem a N (k + 1))

all_c : (naf : ℕ) (S : List Stand) → flat_map (λ (p : Stand). map (clause_c p.at) (literals naf)) S ≡ flat_map (each_c naf) S
unfolding flat_map each_c
all_c naf [] = refl
all_c naf (p ∷ S) = ap₂ (λ (x y : List WordRule). x ++ y) (one_c_lem p.at (literals naf) 0) (all_c naf S)

all_d : (head s : ℕ) (S : List Stand) → flat_map (λ p. flat_map (clause_d p) (numbered s (literals head))) S ≡ flat_map (each_d head s) S
unfolding flat_map each_d
all_d head s [] = refl
all_d head s (p ∷ S) = ap (λ (R : List WordRule). flat_map (clause_d p) (numbered s (literals head)) ++ R) (all_d head s S)

module _ (m s head body naf : ℕ) where
  parts : Fits w32 body → rewritten_from m s head body naf
      ≡ (record { head = head_a m s head naf; body = body } ∷ []) ++ (for_each one_b s head ++ (for_each (each_c naf) s head ++ for_each (each_d head s) s head))
  unfolding rewritten head_a
  parts b = ap₂ (λ (x : ℕ) (R : List WordRule). record { head = head_a m s head naf; body = x } ∷ R) (mask_literals body (omega (arith, b.fits)))
      (ap₂ (λ (x y : List WordRule). x ++ y) (all_b (numbered s (literals head)))
      (ap₂ (λ (x y : List WordRule). x ++ y) (all_c naf (numbered s (literals head))) (all_d head s (numbered s (literals head)))))

  module _ (hs bs : List ℕ) (at h : ℕ) where
    pub a_room : Rewrites m s head body naf hs bs at → Fits w32 body → Places (record { head = h; body = body } ∷ []) hs bs at
    a_room w b = room_one _ _ hs bs at (room_first _ _ hs bs at (room_as _ _ hs bs at (parts b) w.room))

    module _ (hs' bs' : List ℕ) (n : ℕ) where
      as_a : h ≡ head_a m s head naf → Emits (record { head = h; body = body } ∷ []) hs bs at hs' bs' n → Emits (record { head = head_a m s head naf; body = body } ∷ []) hs bs at hs' bs' n
      as_a e g = emits_as _ _ hs bs at hs' bs' n (ap (λ x. record { head = x; body = body } ∷ []) e) g

      pub bcd_room : Rewrites m s head body naf hs bs at → Emits (record { head = h; body = body } ∷ []) hs bs at hs' bs' n → h ≡ head_a m s head naf → Fits w32 body
          → Places (for_each one_b s head ++ (for_each (each_c naf) s head ++ for_each (each_d head s) s head)) hs' bs' n
      bcd_room w g e b = room_then _ _ hs bs at hs' bs' n (room_as _ _ hs bs at (parts b) w.room) (as_a e g)

      pub rewritten_is : (hs'' bs'' : List ℕ) (r : ℕ) → Emits (record { head = h; body = body } ∷ []) hs bs at hs' bs' n
          → Emits (for_each one_b s head ++ (for_each (each_c naf) s head ++ for_each (each_d head s) s head)) hs' bs' n hs'' bs'' r → h ≡ head_a m s head naf → Fits w32 body
          → Emits (rewritten_from m s head body naf) hs bs at hs'' bs'' r
      rewritten_is hs'' bs'' r g d e b = emits_as _ _ hs bs at hs'' bs'' r (sym (parts b)) (emits_then _ _ hs bs at hs' bs' n hs'' bs'' r (as_a e g) d)

-- ---- any clause

module _ (m s head body naf : ℕ) (hs bs : List ℕ) (at : ℕ) where
  module _ (e : naf ≡ 0) (h : Fits w32 head) (b : Fits w32 body) where
    plain : becomes m s (clause_of head body naf) ≡ record { head = head; body = body } ∷ []
    unfolding becomes
    plain = rw (eq-eqb naf 0 e) (ap₂ (λ (x y : ℕ). record { head = x; body = y } ∷ []) (mask_literals head (omega (arith, h.fits))) (mask_literals body (omega (arith, b.fits))))

    pub plain_room : Takes m s (clause_of head body naf) hs bs at → Places (record { head = head; body = body } ∷ []) hs bs at
    plain_room t = room_as _ _ hs bs at plain t.room

    pub plain_is : (hs' bs' : List ℕ) (r : ℕ) → Emits (record { head = head; body = body } ∷ []) hs bs at hs' bs' r → Emits (becomes m s (clause_of head body naf)) hs bs at hs' bs' r
    plain_is hs' bs' r g = emits_as _ _ hs bs at hs' bs' r (sym plain) g

  module _ (n : naf ≡ 0 → ⊥) where
    with_nots : becomes m s (clause_of head body naf) ≡ rewritten_from m s head body naf
    unfolding becomes
    with_nots = rw (ne_eqb naf 0 n)

    pub nots_take : Takes m s (clause_of head body naf) hs bs at → Rewrites m s head body naf hs bs at
    nots_take t = record {
      few = t.few;
      below = t.below;
      places = let q = some-stand_ins head body naf n in omega (arith, t.places);
      room = room_as _ _ hs bs at with_nots t.room;
    }

    pub nots_are : (hs' bs' : List ℕ) (r : ℕ) → Emits (rewritten_from m s head body naf) hs bs at hs' bs' r → Emits (becomes m s (clause_of head body naf)) hs bs at hs' bs' r
    nots_are hs' bs' r g = emits_as _ _ hs bs at hs' bs' r (sym with_nots) g
