-- Which of the sets lie between two words: none where a test says so, one where nothing is free, else those of two branches. Assumes nothing.
use mathlib.Core.Path.{◌≡◌, refl, sym, ap, ◌∙◌, subst}
use mathlib.Core.Bool.{Bool, true, false}
use mathlib.Core.List.{List, [], ◌∷◌, ◌++◌, append-nil}
use mathlib.Core.Logic.{◌⊎◌, inl, ⊎_elim}
use Prim.Native.Nat.{ℕ, ◌+◌, ◌-◌, ◌≤◌, ◌<◌}
use native.Mathlib.Omega.{arith}
use lib.Bits.{bit_and, bit_or}
use lib.Count.{ones}
use lib.Dec.{T, eqb, ltb}
use lib.ListN.{length}
use borrow.Author.Tests.{eqb-true, eq-eqb, ltb-true}
use Rattle.sets.specs.Lists.{◌∈◌, any_of, sift}
use Rattle.sets.specs.Words.{bit, apart, meets, Highest}
use Rattle.sets.proofs.Lists.{some_in, none_each, in_sift, out_sift, sift_in, sift_out, sift_none, in-++, in-++-l, in-++-r}
use Rattle.sets.proofs.Tests.{T?, not_T_false}
use Rattle.sets.proofs.Digits.{bit_zero, bits_ext}
use Rattle.rising.specs.Growing.{held, Runs, Gathered}
use Rattle.rising.specs.RisingSets.{insert_into, add_all}
use Rattle.rising.proofs.Growing.{Growing, held-rising, gathered_as, gathered_held, grow_start, grow_call, grow_done, grow_over}
use Rattle.rising.proofs.RisingSets.{add_all_same}
use Rattle.heads.specs.Heads.{picks, offered_by, without, between}
use Rattle.sets.proofs.Branches.{in_or, or_left, or_right, both_in, in_both, from_out, from_in, branches}
use Rattle.heads.proofs.Tests.{is_between, between_is, between_one, one_between, in_without, without_in}
use Rattle.heads.proofs.Picks.{picks_holds, picks_within, picks_met, picks_count}

nothing : (p : ℕ → Bool) (L : List ℕ) → ((x : ℕ) → x ∈ L → T (p x) → ⊥) → sift p L ≡ []
nothing p L f = sift_none p L (λ x m. not_T_false (p x) (f x m))

ones_none : ones 0 ≡ 0
unfolding ones
ones_none = refl

-- ---- the tests that leave a branch
module _ (H : List ℕ) (j free w : ℕ) where
  pub infeasible_missed : (r : Bool) → r ≡ any_of (apart (bit_or w free)) H → r ≡ true → sift (between free w) (picks H j) ≡ []
  infeasible_missed r e t = nothing (between free w) (picks H j) (λ x m b.
      let s = some_in (apart (bit_or w free)) H (sym e ∙ t) in
      let q = picks_met H j x s.0 m s.1 in
      let i = is_between free w x b in
      let z : bit_and (bit_or w free) s.0 ≡ 0 = eqb-true _ 0 s.2 in
      subst T (bit_zero q.0) (subst (λ (y : ℕ). T (bit y q.0)) z (both_in (bit_or w free) s.0 q.0 (i.within q.0 q.2) q.1)))

  pub infeasible_not : false ≡ true → sift (between free w) (picks H j) ≡ []
  infeasible_not e = absurd (let z : ◌≡◌ {A = ℕ} 0 1 = cc in omega arith)

  -- more literals than the heads can put in
  pub infeasible_many : (x y : ℕ) (r : Bool) → y ≡ without (bit_and x w) j → r ≡ ltb (length (sift (meets y) H)) (ones y) → r ≡ true → sift (between free w) (picks H j) ≡ []
  infeasible_many x y r d e t = nothing (between free w) (picks H j) (λ v m b.
      let i = is_between free w v b in
      let l : length (sift (meets y) H) < ones y = ltb-true _ _ (sym e ∙ t) in
      let in_y : (k : ℕ) → T (bit y k) → T (bit (bit_and x w) k) × (T (bit j k) → ⊥) = λ k u. in_without (bit_and x w) j k (subst (λ (z : ℕ). T (bit z k)) d u) in
      let a : bit_and y v ≡ y = bits_ext (bit_and y v) y (λ k u. (in_both y v k u).0) (λ k u. both_in y v k u (i.holds k (in_both x w k (in_y k u).0).1)) in
      let z : bit_and y j ≡ 0 = bits_ext (bit_and y j) 0 (λ k u. absurd (let p = in_both y j k u in (in_y k p.0).1 p.1)) (λ k u. absurd (subst T (bit_zero k) u)) in
      let c = picks_count y H j v m in
      omega (arith, c, ap ones a, ap ones z ∙ ones_none))

-- ---- what is put in
module _ (L xs : List ℕ) (members : ℕ) where
  pub grown_none : (p : ℕ → Bool) → members ≤ length xs → Runs members xs → sift p L ≡ [] → Gathered (length xs) (add_all (sift p L) (held members xs)) xs members
  unfolding add_all
  grown_none p h runs e = gathered_as (length xs) (held members xs) (add_all (sift p L) (held members xs)) xs members
      (ap (λ (l : List ℕ). add_all l (held members xs)) e) (gathered_held xs members h runs)

  module _ (w : ℕ) where
    pub one_not : (b : Bool) → members ≤ length xs → Runs members xs → b ≡ any_of (eqb w) L → b ≡ false → Gathered (length xs) (add_all (sift (eqb w) L) (held members xs)) xs members
    one_not b h runs e f = grown_none (eqb w) h runs (sift_none (eqb w) L (none_each (eqb w) L (sym e ∙ f)))

    pub one_put : (b : Bool) (out : List ℕ) (r : ℕ) → b ≡ any_of (eqb w) L → b ≡ true → Gathered (length xs) (insert_into w (held members xs)) out r
        → Gathered (length xs) (add_all (sift (eqb w) L) (held members xs)) out r
    unfolding add_all
    one_put b out r e t p = gathered_as (length xs) (insert_into w (held members xs)) (add_all (sift (eqb w) L) (held members xs)) out r
        (add_all_same (sift (eqb w) L) (w ∷ []) (held members xs) (held-rising members xs)
        (λ z m. inl (sym (eqb-true w z (sift_out (eqb w) L z m).1)))
        (λ z m. ⊎_elim
        (λ q. let s = some_in (eqb w) L (sym e ∙ t) in subst (λ (y : ℕ). y ∈ sift (eqb w) L) (sym (eqb-true w s.0 s.2) ∙ sym q) (sift_in (eqb w) L s.0 s.1 s.2))
        (λ q. absurd q) m))
        p

    module _ (free : ℕ) where
      pub scan_infeasible : (b : Bool) → members ≤ length xs → Runs members xs → (b ≡ true → sift (between free w) L ≡ []) → b ≡ true
          → Gathered (length xs) (add_all (sift (between free w) L) (held members xs)) xs members
      scan_infeasible b h runs f t = grown_none (between free w) h runs (f t)

      pub scan_one : (out : List ℕ) (r : ℕ) → free ≡ 0 → Gathered (length xs) (add_all (sift (eqb w) L) (held members xs)) out r
          → Gathered (length xs) (add_all (sift (between free w) L) (held members xs)) out r
      scan_one out r z g = gathered_as (length xs) (add_all (sift (eqb w) L) (held members xs)) (add_all (sift (between free w) L) (held members xs)) out r
          (add_all_same (sift (between free w) L) (sift (eqb w) L) (held members xs) (held-rising members xs)
          (λ x m. let s = out_sift (between free w) L x m in sift_in (eqb w) L x s.0 (eq-eqb w x (between_one free w x z (is_between free w x s.1))))
          (λ x m. let s = sift_out (eqb w) L x m in let e = eqb-true w x s.1 in
          in_sift (between free w) L x s.0 (subst (λ (y : ℕ). T (between free w y)) e (between_is free w w (one_between free w)))))
          g

      module _ (t : ℕ) (h : Highest free t) (runs : Runs members xs) (fits : members ≤ length xs) where
        abbrev out_part : List ℕ
        out_part = sift (between (free - t) w) L

        abbrev in_part : List ℕ
        in_part = sift (between (free - t) (bit_or w t)) L

        halves : add_all (sift (between free w) L) (held members xs) ≡ add_all (out_part ++ in_part) (held members xs)
        halves = add_all_same (sift (between free w) L) (out_part ++ in_part) (held members xs) (held-rising members xs)
            (λ x m.
            let s = out_sift (between free w) L x m in
            ⊎_elim
            (λ b. in-++-l x out_part in_part (in_sift (between (free - t) w) L x s.0 (between_is (free - t) w x b)))
            (λ b. in-++-r x out_part in_part (in_sift (between (free - t) (bit_or w t)) L x s.0 (between_is (free - t) (bit_or w t) x b)))
            (branches free t h w x (is_between free w x s.1)))
            (λ x m. ⊎_elim
            (λ a. let s = out_sift (between (free - t) w) L x a in in_sift (between free w) L x s.0 (between_is free w x (from_out free t h w x (is_between (free - t) w x s.1))))
            (λ a. let s = out_sift (between (free - t) (bit_or w t)) L x a in
            in_sift (between free w) L x s.0 (between_is free w x (from_in free t h w x (is_between (free - t) (bit_or w t) x s.1))))
            (in-++ x out_part in_part m))

        module _ (ys : List ℕ) (m : ℕ) (g : Gathered (length xs) (add_all (sift (between (free - t) w) L) (held members xs)) ys m) where
          half : Growing (length xs) (add_all (out_part ++ in_part) (held members xs)) in_part ys m
          half = grow_call (length xs) (add_all (out_part ++ in_part) (held members xs)) out_part (out_part ++ in_part) in_part xs ys members m
              (grow_start xs (out_part ++ in_part) members fits runs) refl fits g

          pub scan_over : length ys < m → Gathered (length xs) (add_all (sift (between free w) L) (held members xs)) ys m
          scan_over o = gathered_as (length xs) (add_all (out_part ++ in_part) (held members xs)) (add_all (sift (between free w) L) (held members xs)) ys m halves
              (grow_over (length xs) (add_all (out_part ++ in_part) (held members xs)) in_part ys m half (omega (arith, g.long)))

          pub scan_runs : m ≤ length ys → Runs m ys
          scan_runs o = half.runs (omega (arith, g.long))

          pub scan_both : (out : List ℕ) (r : ℕ) → m ≤ length ys → Gathered (length ys) (add_all (sift (between (free - t) (bit_or w t)) L) (held m ys)) out r
              → Gathered (length xs) (add_all (sift (between free w) L) (held members xs)) out r
          scan_both out r o f = gathered_as (length xs) (add_all (out_part ++ in_part) (held members xs)) (add_all (sift (between free w) L) (held members xs)) out r halves
              (grow_done (length xs) (add_all (out_part ++ in_part) (held members xs)) [] out r
              (grow_call (length xs) (add_all (out_part ++ in_part) (held members xs)) in_part in_part [] ys out m r half (sym (append-nil in_part)) (omega (arith, g.long)) f) refl)

-- ---- all of them: they hold j and have no other literal but of the heads
pub scan_all : (H xs : List ℕ) (members j u free : ℕ) (out : List ℕ) (r : ℕ) → u ≡ offered_by H → free ≡ without u j
    → Gathered (length xs) (add_all (sift (between free j) (picks H j)) (held members xs)) out r → Gathered (length xs) (add_all (picks H j) (held members xs)) out r
scan_all H xs members j u free out r e f g = gathered_as (length xs) (add_all (sift (between free j) (picks H j)) (held members xs)) (add_all (picks H j) (held members xs)) out r
    (add_all_same (picks H j) (sift (between free j) (picks H j)) (held members xs) (held-rising members xs)
    (λ x m. in_sift (between free j) (picks H j) x m (between_is free j x (record {
      holds = picks_holds H j x m;
      within = λ i t. ⊎_elim
          (λ a. or_left j free i a)
          (λ b. ⊎_elim
          (λ a. or_left j free i a)
          (λ n. or_right j free i (subst (λ (y : ℕ). T (bit y i)) (sym f) (without_in u j i (subst (λ (y : ℕ). T (bit y i)) (sym e) b) n)))
          (T? (bit j i)))
          (in_or j (offered_by H) i (picks_within H j x m i t));
    })))
    (λ x m. (out_sift (between free j) (picks H j) x m).0))
    g
