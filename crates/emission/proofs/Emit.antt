-- Clauses put one behind the other into two slices: one, then others, and those that are still to come. Assumes nothing.
use Prim.Native.Nat.{ℕ, ◌+◌, ◌-◌, ◌≤◌}
use lib.ListN.{drop, set, length-set, length-append}
use lib.Seq.{get_or-set_same, get_or-set_other, drop-set-lt, drop-drop}
use mathlib.Core.List.{List, [], ◌∷◌, ◌++◌, append_assoc, append-nil}
use mathlib.Core.Path.{◌≡◌, refl, sym, ap, ap₂, ◌∙◌, subst}
use native.Mathlib.Nat.{add-zero}
use native.Mathlib.Omega.{arith}
use Rattle.sets.specs.Lists.{up_from, tabulate}
use Rattle.sets.proofs.Lists.{up_from-add, up_from_ext}
use Rattle.operator.specs.Operator.{WordRule, rule_at}
use Rattle.emission.specs.Emit.{Emits, Places}

-- ---- one clause, and none

pub emits_one : (hs bs : List ℕ) (at h b : ℕ) → Places (record { head = h; body = b } ∷ []) hs bs at
    → Emits (record { head = h; body = b } ∷ []) hs bs at (set hs at h) (set bs at b) (at + 1)
unfolding tabulate up_from
emits_one hs bs at h b q = record {
  count = refl;
  rules =
      let e : 0 + at ≡ at = omega arith in
      up_from-add (rule_at (set hs at h) (set bs at b)) at 1 0
      ∙ ap₂ (λ (R : List WordRule) (r : WordRule). R ++ (r ∷ []))
      (up_from_ext (rule_at (set hs at h) (set bs at b)) (rule_at hs bs) at 0 (λ j l. ap₂ (λ (x y : ℕ). record { head = x; body = y })
      (get_or-set_other hs at j h 0 (λ e. omega (arith, e))) (get_or-set_other bs at j b 0 (λ e. omega (arith, e)))))
      (ap (rule_at (set hs at h) (set bs at b)) e
      ∙ ap₂ (λ (x y : ℕ). record { head = x; body = y }) (get_or-set_same hs at h 0 (omega (arith, q.heads))) (get_or-set_same bs at b 0 (omega (arith, q.bodies))));
  heads = length-set hs at h;
  bodies = length-set bs at b;
  heads_behind = drop-set-lt (at + 1) hs at h (omega arith);
  bodies_behind = drop-set-lt (at + 1) bs at b (omega arith);
}

pub emits_none : (hs bs : List ℕ) (at : ℕ) → Emits [] hs bs at hs bs at
emits_none hs bs at = record { count = sym (add-zero at); rules = sym (append-nil (tabulate (rule_at hs bs) at)); heads = refl; bodies = refl; heads_behind = refl; bodies_behind = refl }

pub room_one : (c d : WordRule) (hs bs : List ℕ) (at : ℕ) → Places (c ∷ []) hs bs at → Places (d ∷ []) hs bs at
room_one c d hs bs at r = record { heads = r.heads; bodies = r.bodies }

-- ---- some clauses, then others

-- what is the same from one place on is so from each later place on
same_later : (xs ys : List ℕ) (i j : ℕ) → i ≤ j → drop i xs ≡ drop i ys → drop j xs ≡ drop j ys
same_later xs ys i j h e =
    let k : i + (j - i) ≡ j = omega arith in
    ap (λ (n : ℕ). drop n xs) (sym k) ∙ sym (drop-drop (j - i) i xs) ∙ ap (drop (j - i)) e ∙ drop-drop (j - i) i ys ∙ ap (λ (n : ℕ). drop n ys) k

module _ (X Y : List WordRule) (hs bs : List ℕ) (at : ℕ) where
  pub room_first : Places (X ++ Y) hs bs at → Places X hs bs at
  room_first r = let l = length-append X Y in record { heads = omega (arith, r.heads); bodies = omega (arith, r.bodies) }

  module _ (hs' bs' : List ℕ) (n : ℕ) where
    pub room_then : Places (X ++ Y) hs bs at → Emits X hs bs at hs' bs' n → Places Y hs' bs' n
    room_then r e = let l = length-append X Y in record { heads = omega (arith, r.heads, e.count, e.heads); bodies = omega (arith, r.bodies, e.count, e.bodies) }

    pub emits_then : (hs'' bs'' : List ℕ) (r : ℕ) → Emits X hs bs at hs' bs' n → Emits Y hs' bs' n hs'' bs'' r → Emits (X ++ Y) hs bs at hs'' bs'' r
    emits_then hs'' bs'' r e d = record {
      count = omega (arith, e.count, d.count, length-append X Y);
      rules = d.rules ∙ ap (λ (R : List WordRule). R ++ Y) e.rules ∙ append_assoc (tabulate (rule_at hs bs) at) X Y;
      heads = d.heads ∙ e.heads;
      bodies = d.bodies ∙ e.bodies;
      heads_behind = d.heads_behind ∙ same_later hs' hs n r (omega (arith, d.count)) e.heads_behind;
      bodies_behind = d.bodies_behind ∙ same_later bs' bs n r (omega (arith, d.count)) e.bodies_behind;
    }

pub emits_as : (X Y : List WordRule) (hs bs : List ℕ) (at : ℕ) (hs' bs' : List ℕ) (r : ℕ) → X ≡ Y → Emits X hs bs at hs' bs' r → Emits Y hs bs at hs' bs' r
emits_as X Y hs bs at hs' bs' r q e = subst (λ (Z : List WordRule). Emits Z hs bs at hs' bs' r) q e

pub room_as : (X Y : List WordRule) (hs bs : List ℕ) (at : ℕ) → X ≡ Y → Places X hs bs at → Places Y hs bs at
room_as X Y hs bs at q r = subst (λ (Z : List WordRule). Places Z hs bs at) q r

-- ---- clauses that are still to come: of X, `done` is put out, and there is room for what is `left`

pub record Emitting (X left : List WordRule) (hs₀ bs₀ : List ℕ) (at₀ : ℕ) (hs bs : List ℕ) (at : ℕ) : Type 0 where
  pub done : List WordRule
  pub whole : done ++ left ≡ X
  pub emits : Emits done hs₀ bs₀ at₀ hs bs at
  pub room : Places left hs bs at

pub emitting_start : (X : List WordRule) (hs bs : List ℕ) (at : ℕ) → Places X hs bs at → Emitting X X hs bs at hs bs at
emitting_start X hs bs at r = record { done = []; whole = refl; emits = emits_none hs bs at; room = r }

module _ (X left : List WordRule) (hs₀ bs₀ : List ℕ) (at₀ : ℕ) (hs bs : List ℕ) (at : ℕ) (e : Emitting X left hs₀ bs₀ at₀ hs bs at) where
  pub emitting_room : (Y rest : List WordRule) → left ≡ Y ++ rest → Places Y hs bs at
  emitting_room Y rest q = room_first Y rest hs bs at (room_as left (Y ++ rest) hs bs at q e.room)

  pub emitting_call : (Y rest : List WordRule) (hs' bs' : List ℕ) (r : ℕ) → left ≡ Y ++ rest → Emits Y hs bs at hs' bs' r → Emitting X rest hs₀ bs₀ at₀ hs' bs' r
  emitting_call Y rest hs' bs' r q c = record {
    done = e.done ++ Y;
    whole = append_assoc e.done Y rest ∙ ap (λ (R : List WordRule). e.done ++ R) (sym q) ∙ e.whole;
    emits = emits_then e.done Y hs₀ bs₀ at₀ hs bs at hs' bs' r e.emits c;
    room = room_then Y rest hs bs at hs' bs' r (room_as left (Y ++ rest) hs bs at q e.room) c;
  }

  pub emitting_done : left ≡ [] → Emits X hs₀ bs₀ at₀ hs bs at
  emitting_done q = emits_as e.done X hs₀ bs₀ at₀ hs bs at
      (sym (append-nil e.done) ∙ ap (λ (R : List WordRule). e.done ++ R) (sym q) ∙ e.whole) e.emits
