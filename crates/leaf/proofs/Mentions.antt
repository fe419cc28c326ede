-- A row that comes to rule out where one literal is decided mentions this literal. Assumes nothing.
use mathlib.Core.Path.{◌≡◌, sym, subst}
use mathlib.Core.Bool.{Bool, true, false, ◌&&◌}
use mathlib.Core.Logic.{◌↔◌, ◌⊎◌, ⊎_elim}
use mathlib.Core.List.{List}
use Prim.Native.Nat.{ℕ, ◌<◌}
use lib.Bits.{bit_or}
use lib.Dec.{T, ltb, lt→ltb}
use borrow.Author.Tests.{eqb-true, eq-eqb}
use Rattle.sets.specs.Words.{bit, Inside, Apart, inside, apart}
use Rattle.sets.proofs.Tests.{clash, both_true, and_is_true, T?, T_and}
use Rattle.sets.proofs.Digits.{inside_bits}
use Rattle.sets.proofs.Branches.{or_left, or_right}
use Rattle.program.specs.Clauses.{Clause}
use Rattle.stable.proofs.Readings.{apart_none}
use Rattle.columns.specs.Columns.{head_column, body_column, naf_column, Columns, mentioned_in}
use Rattle.leaf.specs.Leaf.{rules_out}

-- ---- what it says that a clause rules out
module _ (by w reach : ℕ) (c : Clause) where
  pub ruling : (rules_out by w reach c ≡ true) ↔ (Inside c.body w × Apart c.naf by × Apart c.head reach)
  unfolding rules_out
  ruling = (
    λ h.
        let p = both_true (inside c.body w && apart c.naf by) (apart c.head reach) h in
        let q = both_true (inside c.body w) (apart c.naf by) p.0 in
        (eqb-true _ _ q.0, eqb-true _ _ q.1, eqb-true _ _ p.1),
    λ u. and_is_true _ _ (and_is_true _ _ (eq-eqb _ _ u.0) (eq-eqb _ _ u.1)) (eq-eqb _ _ u.2),
  )

-- ---- a row that has the literal L in a part is among those that mention it
module _ (at : ℕ → Clause) (n : ℕ) (C : List ℕ) (K : Columns at n C) (L : ℕ) (small : L < 24) (i : ℕ) (l : i < n) where
  among : (b : Bool) → T b → T (ltb i n && b)
  among b t = T_and (ltb i n) b (lt→ltb i n l) t

  pub head_mentions : T (bit (at i).head L) → T (bit (mentioned_in C L) i)
  head_mentions t = or_left (bit_or (head_column C L) (body_column C L)) (naf_column C L) i
      (or_left (head_column C L) (body_column C L) i (subst T (sym (K.heads L small i)) (among (bit (at i).head L) t)))

  pub body_mentions : T (bit (at i).body L) → T (bit (mentioned_in C L) i)
  body_mentions t = or_left (bit_or (head_column C L) (body_column C L)) (naf_column C L) i
      (or_right (head_column C L) (body_column C L) i (subst T (sym (K.bodies L small i)) (among (bit (at i).body L) t)))

  pub naf_mentions : T (bit (at i).naf L) → T (bit (mentioned_in C L) i)
  naf_mentions t = or_right (bit_or (head_column C L) (body_column C L)) (naf_column C L) i (subst T (sym (K.nafs L small i)) (among (bit (at i).naf L) t))

-- ---- three words that changed in the literal L alone, if at all
module _ (L by w reach by' w' reach' : ℕ) (by_kept : (M : ℕ) → T (bit by M) → T (bit by' M) ⊎ (M ≡ L)) (w_only : (M : ℕ) → T (bit w' M) → T (bit w M) ⊎ (M ≡ L))
    (reach_kept : (M : ℕ) → T (bit reach M) → T (bit reach' M) ⊎ (M ≡ L)) where
  -- a clause that does not mention it ruled out before
  unmentioned : (c : Clause) → (T (bit c.head L) → ⊥) → (T (bit c.body L) → ⊥) → (T (bit c.naf L) → ⊥) → rules_out by' w' reach' c ≡ true → rules_out by w reach c ≡ true
  unmentioned c h b n t =
      let u = (ruling by' w' reach' c).0 t in
      (ruling by w reach c).1 (
        (inside_bits c.body w).1 (λ M v. ⊎_elim (λ a. a) (λ e. absurd (b (subst (λ (x : ℕ). T (bit c.body x)) e v))) (w_only M ((inside_bits c.body w').0 u.0 M v))),
        (apart_none c.naf by).1 (λ M v x. ⊎_elim (λ a. (apart_none c.naf by').0 u.1 M v a) (λ e. n (subst (λ (x : ℕ). T (bit c.naf x)) e v)) (by_kept M x)),
        (apart_none c.head reach).1 (λ M v x. ⊎_elim (λ a. (apart_none c.head reach').0 u.2 M v a) (λ e. h (subst (λ (x : ℕ). T (bit c.head x)) e v)) (reach_kept M x)),
      )

  -- so a row that did not is among those that mention it
  pub newly_mentioned : (at : ℕ → Clause) (n : ℕ) (C : List ℕ) → Columns at n C → L < 24 → (i : ℕ) → i < n
      → rules_out by w reach (at i) ≡ false → rules_out by' w' reach' (at i) ≡ true → T (bit (mentioned_in C L) i)
  newly_mentioned at n C K small i l f t = ⊎_elim
      (λ a. a)
      (λ a. clash (rules_out by w reach (at i))
      (unmentioned (at i) (λ v. a (head_mentions at n C K L small i l v)) (λ v. a (body_mentions at n C K L small i l v)) (λ v. a (naf_mentions at n C K L small i l v)) t) f)
      (T? (bit (mentioned_in C L) i))
