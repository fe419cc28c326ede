-- What the first six tests have shown of a text, and what all nine have, where none applies. Assumes nothing.
use mathlib.Core.Path.{◌≡◌, refl}
use mathlib.Core.Bool.{Bool, true, false, cond, ◌&&◌}
use mathlib.Core.List.{List, [], ◌∷◌, ◌++◌, map}
use Prim.Native.Nat.{ℕ, suc, ◌+◌, ◌≤◌}
use native.Mathlib.Omega.{arith}
use lib.Dec.{leb}
use lib.ListN.{length}
use borrow.Author.Tests.{not-false, leb-true, ltb-false}
use Rattle.sets.specs.Lists.{every}
use Rattle.sets.proofs.Tests.{both_true}
use Rattle.lists.specs.Bytes.{distinct, ended}
use Rattle.program.specs.Names.{is_name}
use Rattle.program.specs.Refusals.{lowest}
use Rattle.text.specs.Lines.{HasLine, is_dated, names, clause_lines, row}
use Rattle.text.specs.Refusals.{wrong_size, unended, has_foreign, too_many_lines, names_broken, names_equal, is_row, clause_broken, only_zeros, days_reversed, opening, opening_refusal, refusal}
use Rattle.text.proofs.Tests.{plain_line_lem}

cond_zero : (t : Bool) (n r : ℕ) → cond t (suc n) r ≡ 0 → (t ≡ false) × (r ≡ 0)
cond_zero true n r h = absurd (omega arith)
cond_zero false n r h = (refl, h)

-- none of six tests applies, nor what comes behind them
pub record NoneOf (a b c d e f : Bool) (r : ℕ) : Type 0 where
  pub t1 : a ≡ false
  pub t2 : b ≡ false
  pub t3 : c ≡ false
  pub t4 : d ≡ false
  pub t5 : e ≡ false
  pub t6 : f ≡ false
  pub rest : r ≡ 0

none_of : (a b c d e f : Bool) (r : ℕ) → cond a 1 (cond b 2 (cond c 3 (cond d 4 (cond e 5 (cond f 6 r))))) ≡ 0 → NoneOf a b c d e f r
none_of a b c d e f r z =
    let s1 = cond_zero a 0 _ z in let s2 = cond_zero b 1 _ s1.1 in let s3 = cond_zero c 2 _ s2.1 in
    let s4 = cond_zero d 3 _ s3.1 in let s5 = cond_zero e 4 _ s4.1 in let s6 = cond_zero f 5 r s5.1 in
    record { t1 = s1.0; t2 = s2.0; t3 = s3.0; t4 = s4.0; t5 = s5.0; t6 = s6.0; rest = s6.1 }

-- the first six decide where one of them applies
lowest-early : (ts us : List (ℕ × Bool)) → (lowest ts ≡ 0 → ⊥) → lowest (ts ++ us) ≡ lowest ts
unfolding lowest
lowest-early [] us h = absurd (h refl)
lowest-early (t ∷ ts) us h = go t.1 h (lowest-early ts us)
  where
    go : (c : Bool) → (cond c t.0 (lowest ts) ≡ 0 → ⊥) → ((lowest ts ≡ 0 → ⊥) → lowest (ts ++ us) ≡ lowest ts)
        → cond c t.0 (lowest (ts ++ us)) ≡ cond c t.0 (lowest ts)
    go true k ih = refl
    go false k ih = ih k

module _ (b : List ℕ) where
  abbrev Six : ℕ → Type 0
  Six r = NoneOf (wrong_size b) (unended b) (has_foreign b) (too_many_lines b) (names_broken b) (names_equal b) r

  pub early : (opening_refusal b ≡ 0 → ⊥) → refusal b ≡ opening_refusal b
  unfolding opening_refusal refusal
  early h = lowest-early (opening b) _ h

  six : opening_refusal b ≡ 0 → Six 0
  unfolding opening_refusal lowest
  six z = none_of _ _ _ _ _ _ 0 z

  -- 7, 8 and 22 decide where none of the first six applies
  pub late : opening_refusal b ≡ 0 → refusal b ≡ lowest ((7, clause_broken b) ∷ (8, only_zeros b) ∷ (22, days_reversed b) ∷ [])
  unfolding refusal lowest
  late z = let t = six z in rw (t.t1, t.t2, t.t3, t.t4, t.t5, t.t6)

  -- a text that none of the first six meets
  pub record Opened : Type 0 where
    pub sized : wrong_size b ≡ false
    pub closed : unended b ≡ false
    pub line : HasLine b
    pub many : length (ended 10 b) ≤ 65
    pub any : 1 ≤ length (names b)
    pub few : length (names b) ≤ 12
    pub named : every is_name (names b) ≡ true
    pub apart : distinct (names b) ≡ true

  pub opened : opening_refusal b ≡ 0 → Opened
  unfolding too_many_lines names_broken names_equal
  opened z =
      let t = six z in
      let l = length (names b) in
      let a = both_true (leb 1 l && leb l 12) (every is_name (names b)) (not-false _ t.t5) in
      let c = both_true (leb 1 l) (leb l 12) a.0 in
      record {
        sized = t.t1;
        closed = t.t2;
        line = plain_line_lem b t.t1 t.t2;
        many = ltb-false 65 (length (ended 10 b)) t.t4;
        any = leb-true 1 l c.0;
        few = leb-true l 12 c.1;
        named = a.1;
        apart = not-false _ t.t6;
      }

  -- a text that no refusal meets
  pub record Clear : Type 0 where
    pub opening : opening_refusal b ≡ 0
    pub ruled : every (is_row (is_dated b) (length (names b))) (map row (clause_lines b)) ≡ true
    pub told : only_zeros b ≡ false
    pub ordered : days_reversed b ≡ false

  pub clear : refusal b ≡ 0 → Clear
  unfolding refusal opening_refusal lowest clause_broken
  clear h =
      let t : Six (lowest ((7, clause_broken b) ∷ (8, only_zeros b) ∷ (22, days_reversed b) ∷ [])) = none_of _ _ _ _ _ _ _ h in
      let s7 = cond_zero (clause_broken b) 6 _ t.rest in
      let s8 = cond_zero (only_zeros b) 7 _ s7.1 in
      record {
        opening = rw (t.t1, t.t2, t.t3, t.t4, t.t5, t.t6);
        ruled = not-false _ s7.0;
        told = s8.0;
        ordered = (cond_zero (days_reversed b) 21 0 s8.1).0;
      }
