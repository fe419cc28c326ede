-- Laws of the check's loops: the first clause that is violated, and the walk of the subsets. Assumes nothing.
use mathlib.Core.Path.{◌≡◌, refl, sym, ap, ◌∙◌}
use mathlib.Core.Bool.{Bool, true, false, cond, not, ◌&&◌, ◌||◌, and-false}
use mathlib.Core.List.{List, [], ◌∷◌, map}
use Prim.Native.Nat.{ℕ, zero, suc, ◌+◌, ◌-◌, ◌/◌, ◌^◌, ◌≤◌, ◌<◌}
use native.Mathlib.Omega.{arith}
use lib.Dec.{eqb, eqb-zero-suc, eqb-suc-suc}
use lib.Bits.{bit_and, and_le_r, and_zero_l, and_mask}
use lib.ListN.{length, get_or}
use borrow.Author.Tests.{lt-ltb, le-ltb, eq-eqb, ne_eqb}
use Rattle.sets.specs.Lists.{every, any_of, sift, tabulate}
use Rattle.sets.specs.Words.{Set, bit, Inside, Next, inside, apart, next_subset}
use Rattle.sets.specs.Least.{least_from, least}
use Rattle.sets.proofs.Digits.{bit_div}
use Rattle.sets.proofs.Least.{Searched, miss, leap, least_suc}
use Rattle.sets.proofs.Subsets.{next_is}
use Rattle.sets.proofs.Lists.{length-tabulate, get_d_tabulate}
use Rattle.program.specs.declared.Program.{Program}
use Rattle.program.specs.Clauses.{Clause, Row, clause_of, clause_at, rows, standing, no_clause, no_row}
use Rattle.program.specs.Days.{of_day, clauses, RowsOfDay}
use Rattle.program.specs.Only.{only_of}
use Rattle.program.specs.Valid.{valid}
use Rattle.program.proofs.Validity.{valid_clauses}
use Rattle.program.proofs.Chosen.{only_valid}
use Rattle.program.proofs.Days.{length_rows, row_is, day_table}
use Rattle.stable.specs.declared.Checked.TheVariants.{Violated, Smaller, Stable}
use Rattle.semantics.specs.Interpretations.{satisfies, reduct, is_model, violates, violated_at, smaller, least_smaller}
use Rattle.stable.specs.Check.{first_violated, verdict, violated_in}

-- ---- a clause more
strip_violates : (w : ℕ) (c : Clause) → satisfies w (clause_of c.head c.body 0) ≡ not (inside c.body w && apart c.head w)
unfolding satisfies
strip_violates w c = rw (and_zero_l w) (go (inside c.body w) (apart c.head w))
  where
    go : (a d : Bool) → not (a && true) || not d ≡ not (a && d)
    go true true = refl
    go true false = refl
    go false d = refl

pub model_cons : (c : Clause) (P : List Clause) (I w : ℕ) → is_model (reduct (c ∷ P) I) w ≡ not (violates I w c) && is_model (reduct P I) w
unfolding is_model reduct every sift violates
model_cons c P I w = go (apart c.naf I) (strip_violates w c)
  where
    R : List Clause
    R = sift (λ d. apart d.naf I) P

    go : (b : Bool) → satisfies w (clause_of c.head c.body 0) ≡ not (inside c.body w && apart c.head w)
        → every (satisfies w) (map (λ d. clause_of d.head d.body 0) (cond b (c ∷ sift (λ d. apart d.naf I) P) (sift (λ d. apart d.naf I) P)))
        ≡ not (inside c.body w && b && apart c.head w) && every (satisfies w) (map (λ d. clause_of d.head d.body 0) (sift (λ d. apart d.naf I) P))
    go true e = rw e (same (inside c.body w) (apart c.head w))
      where
        same : (a d : Bool) → not (a && d) && every (satisfies w) (map (λ d. clause_of d.head d.body 0) (sift (λ d. apart d.naf I) P))
            ≡ not (a && true && d) && every (satisfies w) (map (λ d. clause_of d.head d.body 0) (sift (λ d. apart d.naf I) P))
        same true d = refl
        same false d = refl
    go false e = rw (and-false (inside c.body w))

-- a word satisfies the reduct where no clause is violated: none of them, and by the number of the least
pub model_some : (P : List Clause) (I w : ℕ) → is_model (reduct P I) w ≡ not (any_of (violates I w) P)
unfolding any_of is_model reduct every sift
model_some [] I w = refl
model_some (c ∷ P) I w = model_cons c P I w ∙ rw (model_some P I w) (go (violates I w c) (any_of (violates I w) P))
  where
    go : (a b : Bool) → not a && not b ≡ not (a || b)
    go true b = refl
    go false b = refl

pub model-least : (P : List Clause) (I w : ℕ) → eqb (least (violated_at P I w) (length P)) (length P) ≡ is_model (reduct P I) w
unfolding violated_at least reduct sift is_model every
model-least [] I w = refl
model-least (c ∷ P) I w = rw (model_cons, least_suc (violated_at (c ∷ P) I w) (length P)) (go (violates I w c) (model-least P I w))
  where
    go : (b : Bool) → eqb (least (violated_at P I w) (length P)) (length P) ≡ is_model (reduct P I) w
        → eqb (cond b 0 (suc (least (violated_at P I w) (length P)))) (suc (length P)) ≡ not b && is_model (reduct P I) w
    go true e = eqb-zero-suc (length P)
    go false e = eqb-suc-suc (least (violated_at P I w) (length P)) (length P) ∙ e

-- a clause is violated by the word that makes the reduct exactly where the word does not satisfy it
pub violates_self : (I : ℕ) (c : Clause) → violates I I c ≡ not (satisfies I c)
unfolding violates satisfies
violates_self I c = go (inside c.body I) (apart c.naf I) (apart c.head I)
  where
    go : (a b d : Bool) → a && b && d ≡ not (not (a && b) || not d)
    go true true true = refl
    go true true false = refl
    go true false d = refl
    go false b d = refl

-- ---- the rows that count, by number
-- of rows those that pass a test, as clauses
abbrev pub counted : (Row → Bool) → List Row → List Clause
counted counts R = map (λ r. r.clause) (sift counts R)

-- no row that counts is violated: the word is a model of the reduct of their clauses
pub model_rows_least : (counts : Row → Bool) (R : List Row) (I : ℕ) → eqb (first_violated counts R I) (length R) ≡ is_model (reduct (counted counts R) I) I
unfolding first_violated least reduct sift is_model every
model_rows_least counts [] I = refl
model_rows_least counts (r ∷ R) I =
    rw (least_suc (λ k. counts (get_or (r ∷ R) k no_row) && not (satisfies I (get_or (r ∷ R) k no_row).clause)) (length R)) (go (counts r) (model_rows_least counts R I))
  where
    go : (b : Bool) → eqb (first_violated counts R I) (length R) ≡ is_model (reduct (counted counts R) I) I
        → eqb (cond (b && not (satisfies I r.clause)) 0 (suc (first_violated counts R I))) (suc (length R))
        ≡ is_model (reduct (map (λ r. r.clause) (cond b (r ∷ sift counts R) (sift counts R))) I) I
    go false e = eqb-suc-suc (first_violated counts R I) (length R) ∙ e
    go true e = sym (model_cons r.clause (counted counts R) I I ∙ rw (violates_self I r.clause) (sym (at (satisfies I r.clause))))
      where
        at : (s : Bool) → eqb (cond (not s) 0 (suc (first_violated counts R I))) (suc (length R)) ≡ not (not s) && is_model (reduct (counted counts R) I) I
        at true = eqb-suc-suc (first_violated counts R I) (length R) ∙ e
        at false = eqb-zero-suc (length R)

-- ---- the loops, over any layout of n clauses
module _ (at : ℕ → Clause) (n I : ℕ) where
  pub tested : (w k : ℕ) {r b : Bool} → k < n → r ≡ violates I w (at k) → r ≡ b → violated_at (tabulate at n) I w k ≡ b
  unfolding violated_at
  tested w k h e t = ap (violates I w) (get_d_tabulate at n k no_clause h) ∙ sym e ∙ t

  model_rows : (w : ℕ) → eqb (least (violated_at (tabulate at n) I w) n) n ≡ is_model (reduct (tabulate at n) I) w
  model_rows w = rw (length-tabulate at n) at (model-least (tabulate at n) I w)

  module _ (j r : ℕ) (h : Inside j I) (e : r ≡ least (violated_at (tabulate at n) I j) n) where
    pub smaller_is : r ≡ n → smaller (reduct (tabulate at n) I) I j ≡ true
    unfolding smaller
    smaller_is q = rw (eq-eqb (bit_and j I) j h, ← model_rows j, ← e) (eq-eqb r n q)

    pub smaller_not : (r ≡ n → ⊥) → smaller (reduct (tabulate at n) I) I j ≡ false
    unfolding smaller
    smaller_not q = rw (eq-eqb (bit_and j I) j h, ← model_rows j, ← e) (ne_eqb r n q)

  pub least_is : (j : ℕ) → j ≡ least (smaller (reduct (tabulate at n) I) I) I → j ≡ least_smaller (tabulate at n) I
  unfolding least_smaller
  least_is j e = e

-- ---- the rows of a set, one by one
-- the test of one row, as the code makes it
pub row_test : (w k : ℕ) {r x : Bool} → r ≡ x → eqb (bit_and (w / 2 ^ k) 1) 1 && r ≡ bit w k && x
row_test w k {r} {x} e = rw e (ap (λ y. eqb y 1 && x) (and_mask (w / 2 ^ k) 1) ∙ ap (λ b. b && x) (sym (bit_div w k)))

module _ (S : Set ℕ) (at : ℕ → Clause) (I k : ℕ) {r b : Bool} where
  pub row_tested : r ≡ S k && violates I I (at k) → r ≡ b → violated_in S at I k ≡ b
  unfolding violated_in
  row_tested e t = sym e ∙ t

-- two tests that agree below n have the same least number below n
from_same : (f g : ℕ → Bool) (k i : ℕ) → ((j : ℕ) → j < i + k → f j ≡ g j) → least_from f k i ≡ least_from g k i
unfolding least_from
from_same f g zero i h = refl
from_same f g (suc k) i h = rw (h i (omega arith), from_same f g k (suc i) (λ j l. h j (omega arith)))

least_same : (f g : ℕ → Bool) (n : ℕ) → ((j : ℕ) → j < n → f j ≡ g j) → least f n ≡ least g n
unfolding least
least_same f g n h = from_same f g n 0 (λ j l. h j (omega arith))

-- ---- the answer on a day, by the way that the check is left
-- a valid table has at most 64 rows
pub few_rows : (p : Program) → valid p ≡ true → p.clause_count ≤ 64
few_rows p v = (valid_clauses p v).short

-- and so has the table of some of them
pub few-chosen : (p : Program) (w : ℕ) {q : Program} → valid p ≡ true → q ≡ only_of p w → q.clause_count ≤ 64
few-chosen p w v g = rw g (few_rows (only_of p w) (only_valid p v w))

pub row_number : (p : Program) (k : ℕ) → valid p ≡ true → k < p.clause_count → k < 2 ^ 32
row_number p k v h = omega (arith, few_rows p v)

module _ (p : Program) (d w I : ℕ) (v : valid p ≡ true) (s : RowsOfDay p d w) where
  at_row : (i : ℕ) → i < p.clause_count → violated_in (bit w) (clause_at p.heads p.bodies p.nafs) I i
      ≡ of_day p d (get_or (rows p) i no_row) && not (satisfies I (get_or (rows p) i no_row).clause)
  unfolding violated_in
  at_row i h =
      let l : i < 64 = omega (arith, (valid_clauses p v).short) in
      rw (s.exactly i, lt-ltb i 64 l, violates_self I, row_is p i h)

  -- the table of the day's clauses
  of_day_lem : {q : Program} → q ≡ only_of p w → tabulate (clause_at q.heads q.bodies q.nafs) q.clause_count ≡ clauses p d
  unfolding standing
  of_day_lem g = ap standing g ∙ (day_table p d w v s).standing_are

  module _ (k : ℕ) (e : k ≡ least (violated_in (bit w) (clause_at p.heads p.bodies p.nafs) I) p.clause_count) where
    first_row : k ≡ first_violated (of_day p d) (rows p) I
    unfolding first_violated
    first_row = e ∙ least_same _ (λ i. of_day p d (get_or (rows p) i no_row) && not (satisfies I (get_or (rows p) i no_row).clause)) p.clause_count at_row ∙ rw (length_rows p)

    pub is-violated : k < p.clause_count → Violated k ≡ verdict (of_day p d) (rows p) (clauses p d) I
    unfolding verdict
    is-violated h = rw (← first_row, length_rows p, lt-ltb k p.clause_count h)

    module _ (j : ℕ) (h : p.clause_count ≤ k) {q : Program} (g : q ≡ only_of p w) (f : j ≡ least_smaller (tabulate (clause_at q.heads q.bodies q.nafs) q.clause_count) I) where
      least-of_day : j ≡ least_smaller (clauses p d) I
      least-of_day = f ∙ ap (λ P. least_smaller P I) (of_day_lem g)

      pub is-smaller : j < I → Smaller j ≡ verdict (of_day p d) (rows p) (clauses p d) I
      unfolding verdict
      is-smaller l = rw (← first_row, length_rows p, le-ltb k p.clause_count h, ← least-of_day, lt-ltb j I l)

      pub is_stable_lem : I ≤ j → Stable ≡ verdict (of_day p d) (rows p) (clauses p d) I
      unfolding verdict
      is_stable_lem l = rw (← first_row, length_rows p, le-ltb k p.clause_count h, ← least-of_day, le-ltb j I l)

-- ---- a turn of the walk: j is not I, and m follows it
module _ (I j m : ℕ) (l : I < 2 ^ 32) (h : Inside j I) (s : j < I) (e : m ≡ next_subset 32 I j) where
  follows : Next I j m
  follows = rw e (next_is 32 I j l h s)

  within : m ≤ I
  within = let n = follows in omega (arith, and_le_r m I, n.inside)

  pub still_inside : Inside m I
  still_inside = follows.inside

  pub walk_falls : I - m < I - j
  walk_falls = let n = follows in omega (arith, n.above, within)

  -- the word j fails the test, and no word between the two is a subset
  pub walk_on : (R : List Clause) → Searched (smaller R I) I j → smaller R I j ≡ false → Searched (smaller R I) I m
  unfolding smaller
  walk_on R t f =
      let n = follows in
      leap (smaller R I) I (j + 1) m (miss (smaller R I) I j t s f) (omega (arith, n.above)) within (λ k a b. rw (ne_eqb (bit_and k I) k (λ q. n.no_between k (omega arith) b q)))
