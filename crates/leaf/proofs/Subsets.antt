-- The smaller subsets of a word, depth first: what is left where a branch is cut, and how two branches make one. Assumes nothing.
use mathlib.Core.Path.{◌≡◌, sym, ap, ◌∙◌, subst}
use mathlib.Core.Bool.{Bool, true, false, not, ◌&&◌}
use mathlib.Core.Logic.{◌⊎◌, ⊎_elim}
use mathlib.Core.List.{List}
use Prim.Native.Nat.{ℕ, ◌-◌, ◌<◌}
use native.Mathlib.Nat.{eq-or-lt_of_le}
use native.Mathlib.Omega.{arith}
use lib.Dec.{T, eqb}
use lib.Bits.{bit_or, and_zero_l, or_zero_l, or_zero_r}
use borrow.Author.Tests.{eqb-true, eqb-false, eq-eqb, ne_eqb}
use Rattle.sets.specs.Lists.{any_of, below}
use Rattle.sets.specs.Words.{bit, Inside, Apart, inside, apart, Highest}
use Rattle.sets.specs.Least.{least}
use Rattle.sets.proofs.Tests.{dec, clash, both_true, and_is_true}
use Rattle.sets.proofs.Lists.{some_in, in_some, below_in, in_below}
use Rattle.sets.proofs.Least.{least_miss, least_none}
use Rattle.sets.proofs.Branches.{or_left, or_right, Between, out_wider, in_wider, from_out, from_in, branches}
use Rattle.sets.proofs.Digits.{inside_bits, inside_le}
use Rattle.program.specs.Clauses.{Clause}
use Rattle.semantics.specs.Interpretations.{reduct, is_model, violates, smaller, least_smaller, is_stable}
use Rattle.stable.proofs.Readings.{apart_none}
use Rattle.stable.proofs.Checking.{model_some}
use Rattle.leaf.specs.Leaf.{rules_out, smaller_between}
use Rattle.leaf.proofs.Mentions.{ruling}

-- ---- words as sets
pub inside_trans : (a b c : ℕ) → Inside a b → Inside b c → Inside a c
inside_trans a b c p q = (inside_bits a c).1 (λ i t. (inside_bits b c).0 q i ((inside_bits a b).0 p i t))

apart_within : (a b c : ℕ) → Apart a c → Inside b c → Apart a b
apart_within a b c h s = (apart_none a b).1 (λ i t u. (apart_none a c).0 h i t ((inside_bits b c).0 s i u))

-- ---- the two branches
module _ (R t : ℕ) (h : Highest R t) (J : ℕ) where
  -- the words of the two branches are within the whole
  pub out_inside : (I : ℕ) → Inside (bit_or J R) I → Inside (bit_or J (R - t)) I
  out_inside I s = (inside_bits (bit_or J (R - t)) I).1 (λ i u. (inside_bits (bit_or J R) I).0 s i (out_wider R t h J i u))

  pub in_inside : (I : ℕ) → Inside (bit_or J R) I → Inside (bit_or (bit_or J t) (R - t)) I
  in_inside I s = (inside_bits (bit_or (bit_or J t) (R - t)) I).1 (λ i u. (inside_bits (bit_or J R) I).0 s i (in_wider R t h J i u))

-- ---- a clause that is violated by all between
module _ (P : List Clause) (I : ℕ) where
  violated : (J R K : ℕ) (c : Clause) → Between J R K → rules_out I J (bit_or J R) c ≡ true → violates I K c ≡ true
  unfolding violates
  violated J R K c b h =
      let u = (ruling I J (bit_or J R) c).0 h in
      and_is_true _ _
      (and_is_true _ _ (eq-eqb _ _ (inside_trans c.body J K u.0 ((inside_bits J K).1 b.holds))) (eq-eqb _ _ u.1))
      (eq-eqb _ _ (apart_within c.head K (bit_or J R) u.2 ((inside_bits K (bit_or J R)).1 b.within)))

  cut : (J R K : ℕ) → any_of (rules_out I J (bit_or J R)) P ≡ true → Between J R K → is_model (reduct P I) K ≡ false
  cut J R K h b =
      let s = some_in (rules_out I J (bit_or J R)) P h in
      model_some P I K ∙ ap not (in_some (violates I K) P s.0 s.1 (violated J R K s.0 b s.2))

  -- ---- some proper subset between
  found : (J R K : ℕ) → Between J R K → K < I → is_model (reduct P I) K ≡ true → smaller_between P I J R ≡ true
  unfolding smaller_between
  found J R K b l m =
      in_some (λ K. inside J K && inside K (bit_or J R) && is_model (reduct P I) K) (below I) K (below_in I K l)
      (and_is_true _ _ (and_is_true _ _ (eq-eqb _ _ ((inside_bits J K).1 b.holds)) (eq-eqb _ _ ((inside_bits K (bit_or J R)).1 b.within))) m)

  pub record Smaller (J R : ℕ) : Type 0 where
    pub word : ℕ
    pub between : Between J R word
    pub proper : word < I
    pub model : is_model (reduct P I) word ≡ true

  finds : (J R : ℕ) → smaller_between P I J R ≡ true → Smaller J R
  unfolding smaller_between
  finds J R h =
      let s = some_in (λ K. inside J K && inside K (bit_or J R) && is_model (reduct P I) K) (below I) h in
      let p = both_true (inside J s.0 && inside s.0 (bit_or J R)) (is_model (reduct P I) s.0) s.2 in
      let q = both_true (inside J s.0) (inside s.0 (bit_or J R)) p.0 in
      record {
        word = s.0;
        between = record { holds = (inside_bits J s.0).0 (eqb-true _ _ q.0); within = (inside_bits s.0 (bit_or J R)).0 (eqb-true _ _ q.1) };
        proper = in_below I s.0 s.1;
        model = p.1;
      }

  none : (J R : ℕ) → (Smaller J R → ⊥) → smaller_between P I J R ≡ false
  none J R f = ⊎_elim (λ t. absurd (f (finds J R t))) (λ e. e) (dec (smaller_between P I J R))

  -- ---- the ways that the routine returns
  pub branch_cut : (J R : ℕ) {r : Bool} → r ≡ any_of (rules_out I J (bit_or J R)) P → r ≡ true → false ≡ smaller_between P I J R
  branch_cut J R e t = sym (none J R (λ s. clash (is_model (reduct P I) s.word) s.model (cut J R s.word (sym e ∙ t) s.between)))

  module _ (J R : ℕ) {r : Bool} (e : r ≡ any_of (rules_out I J (bit_or J R)) P) (f : r ≡ false) (z : R ≡ 0) (s : Inside (bit_or J R) I) where
    all-decided : bit_or J R ≡ J
    all-decided = ap (bit_or J) z ∙ or_zero_r J

    itself : is_model (reduct P I) J ≡ true
    unfolding rules_out violates
    itself = model_some P I J ∙ ap not (ap (λ (x : ℕ). any_of (λ (c : Clause). inside c.body J && apart c.naf I && apart c.head x) P) (sym all-decided) ∙ sym e ∙ f)

    pub branch_end : not (eqb J I) ≡ smaller_between P I J R
    branch_end = ⊎_elim
        (λ t. ap not t ∙ sym (none J R (λ q. let j = eqb-true J I t in let k = inside_le J q.word ((inside_bits J q.word).1 q.between.holds) in absurd (omega (arith, q.proper)))))
        (λ u. ap not u ∙ sym (found J R J (record { holds = λ i v. v; within = λ i v. or_left J R i v })
        (⊎_elim (λ q. absurd (eqb-false J I u q)) (λ l. l) (eq-or-lt_of_le (inside_le J I (rw all-decided at s)))) itself))
        (dec (eqb J I))

  module _ (J R t : ℕ) (h : Highest R t) {r : Bool} (e : r ≡ smaller_between P I J (R - t)) where
    pub branch_out : r ≡ true → true ≡ smaller_between P I J R
    branch_out q = let s = finds J (R - t) (sym e ∙ q) in sym (found J R s.word (from_out R t h J s.word s.between) s.proper s.model)

    pub branch_in : {b : Bool} → r ≡ false → b ≡ smaller_between P I (bit_or J t) (R - t) → b ≡ smaller_between P I J R
    branch_in {b} q g = g ∙ ⊎_elim
        (λ u. let s = finds (bit_or J t) (R - t) u in u ∙ sym (found J R s.word (from_in R t h J s.word s.between) s.proper s.model))
        (λ u. u ∙ sym (none J R (λ s. ⊎_elim
        (λ a. clash (smaller_between P I J (R - t)) (found J (R - t) s.word a s.proper s.model) (sym e ∙ q))
        (λ c. clash (smaller_between P I (bit_or J t) (R - t)) (found (bit_or J t) (R - t) s.word c s.proper s.model) u)
        (branches R t h J s.word s.between))))
        (dec (smaller_between P I (bit_or J t) (R - t)))

  -- ---- all subsets: the word is minimal where none is found
  all_between : (K : ℕ) → Inside K I → Between 0 I K
  all_between K s = record {
    holds = (inside_bits 0 K).0 (and_zero_l K);
    within = λ i u. or_right 0 I i ((inside_bits K I).0 s i u);
  }

  between_all : (K : ℕ) → Between 0 I K → Inside K I
  between_all K b = rw (or_zero_l I) at ((inside_bits K (bit_or 0 I)).1 b.within)

  minimal_is : not (smaller_between P I 0 I) ≡ eqb (least_smaller P I) I
  unfolding least_smaller smaller
  minimal_is = ⊎_elim
      (λ t.
      let s = finds 0 I t in
      ap not t ∙ sym (ne_eqb _ I (λ (q : least (smaller (reduct P I) I) I ≡ I).
      clash (smaller (reduct P I) I s.word) (and_is_true _ _ (eq-eqb _ _ (between_all s.word s.between)) s.model)
      (least_miss (smaller (reduct P I) I) I s.word (omega (arith, s.proper))))))
      (λ u.
      ap not u ∙ sym (eq-eqb _ I (least_none (smaller (reduct P I) I) I (λ j l. ⊎_elim
      (λ t.
      let p = both_true (inside j I) (is_model (reduct P I) j) t in
      clash (smaller_between P I 0 I) (found 0 I j (all_between j (eqb-true _ _ p.0)) l p.1) u)
      (λ e. e)
      (dec (smaller (reduct P I) I j))))))
      (dec (smaller_between P I 0 I))

  pub leaf_tested : {r : Bool} → is_model (reduct P I) I ≡ true → r ≡ smaller_between P I 0 I → not r ≡ is_stable P I
  unfolding is_stable
  leaf_tested m e = ap not e ∙ minimal_is ∙ rw m

pub all_open : (I : ℕ) → Inside (bit_or 0 I) I
all_open I = (inside_bits (bit_or 0 I) I).1 (λ i u. subst (λ (x : ℕ). T (bit x i)) (or_zero_l I) u)
