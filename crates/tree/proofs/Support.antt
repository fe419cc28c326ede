-- A p-stable word has for each of its literals a clause that supports it, so no leaf below a node that is not alive is p-stable. Assumes nothing.
use mathlib.Core.Path.{◌≡◌, refl, sym, ap, ◌∙◌, subst}
use mathlib.Core.Bool.{Bool, true, false, not, ◌&&◌, ◌||◌}
use mathlib.Core.Logic.{◌↔◌, ◌⊎◌, ⊎_elim}
use mathlib.Core.List.{List}
use Prim.Native.Nat.{ℕ, ◌+◌, ◌-◌, ◌*◌, ◌%◌, ◌^◌, ◌≤◌, ◌<◌}
use native.Mathlib.Nat.{zero-add, add-zero, mod-eq_of_lt, mul-mod_right}
use native.Mathlib.Omega.{arith}
use lib.Dec.{T, eqb}
use lib.Pow.{pow-add, pow-lt, ones_lt}
use lib.Bits.{bit_and, and_self, and_zero_l}
use borrow.Author.Tests.{eqb-true, eqb-false, eq-eqb, ne_eqb, not-true, not-false}
use Rattle.sets.specs.Lists.{◌∈◌, Some, any_of, below}
use Rattle.sets.specs.Words.{Set, ◌⊑◌, bit, Inside, Apart, inside, apart}
use Rattle.sets.proofs.Tests.{dec, clash, both_true, both_false, and_is_true, same?, lt_or_ge, T_true, true_T, not_T_false, T?, T_and, T_and_l, T_and_r}
use Rattle.sets.proofs.Lists.{some_in, none_each, in_some, some_none, below_in}
use Rattle.sets.proofs.Digits.{inside_bits, meets_bits, bit_zero, bit_low, bit-small, set_word, below_pow}
use Rattle.sets.proofs.Branches.{both_in, in_both, in_pow, pow_in}
use Rattle.program.specs.Clauses.{Clause}
use Rattle.semantics.specs.Interpretations.{reduct, is_model, violates, is_stable}
use Rattle.stable.proofs.Checking.{model_some}
use Rattle.stable.proofs.Readings.{apart_none}
use Rattle.stable.proofs.Decides.{StableWord, stable_word_lem}
use Rattle.tree.specs.NodeTest.{violated, possible, could_support, DecidedIn, CouldSupport, unsupported, told, node_test, is_dead, dead}
use Rattle.tree.proofs.Nodes.{and_low, and_reach, and_decided, unstable_below}

-- ---- in a p-stable word I each literal L has a clause that supports it
record Supports (I L : ℕ) (c : Clause) : Type 0 where
  heads : T (bit c.head L)
  not-bodies : T (bit c.body L) → ⊥
  bodies : bit c.body ⊑ bit I
  nafs : (M : ℕ) → T (bit c.naf M) → T (bit I M) → ⊥
  only : (M : ℕ) → T (bit c.head M) → T (bit I M) → M ≡ L

module _ (I L : ℕ) where
  -- I without L
  abbrev others : Set ℕ
  others M = bit I M && not (eqb M L)

  other : (M : ℕ) → T (others M) → M ≡ L → ⊥
  other M t = eqb-false M L (not-true (eqb M L) (T_true _ (T_and_r (bit I M) (not (eqb M L)) t)))

  in_others : (M : ℕ) → T (bit I M) → (M ≡ L → ⊥) → T (others M)
  in_others M t d = T_and (bit I M) (not (eqb M L)) t (true_T (not (eqb M L)) (rw (ne_eqb M L d)))

  -- a clause that I satisfies and J, which is I without L, does not
  module _ (J : ℕ) (e : bit J ≡ others) (c : Clause) (breaks : violates I J c ≡ true) (holds : violates I I c ≡ false) where
    parts : (inside c.body J ≡ true) × (apart c.naf I ≡ true) × (apart c.head J ≡ true)
    unfolding violates
    parts = let b = both_true _ _ breaks in let a = both_true _ _ b.0 in (a.0, a.1, b.1)

    body_others : bit c.body ⊑ others
    body_others = subst (λ (s : Set ℕ). bit c.body ⊑ s) e ((inside_bits c.body J).0 (eqb-true _ _ parts.0))

    body_in : bit c.body ⊑ bit I
    body_in M t = T_and_l (bit I M) (not (eqb M L)) (body_others M t)

    only_one : (M : ℕ) → T (bit c.head M) → T (bit I M) → M ≡ L
    only_one M t u = ⊎_elim (λ q. q)
        (λ d. absurd ((apart_none c.head J).0 (eqb-true _ _ parts.2) M t (subst (λ (s : Set ℕ). T (s M)) (sym e) (in_others M u d))))
        (same? M L)

    -- the head meets I, since I satisfies the clause
    head_meets : Apart c.head I → ⊥
    unfolding violates
    head_meets a = clash (violates I I c) (and_is_true _ _ (and_is_true _ _ (eq-eqb _ _ ((inside_bits c.body I).1 body_in)) parts.1) (eq-eqb _ _ a)) holds

    supports : Supports I L c
    supports = record {
      heads = let m = (meets_bits c.head I).0 head_meets in subst (λ (M : ℕ). T (bit c.head M)) (only_one m.0 m.1 m.2) m.1;
      not-bodies = λ t. other L (body_others L t) refl;
      bodies = body_in;
      nafs = (apart_none c.naf I).0 (eqb-true _ _ parts.1);
      only = only_one;
    }

-- some clause breaks where a literal is taken away
some_supports_lem : (P : List Clause) (I L : ℕ) → StableWord P I → T (bit I L) → Some (Supports I L) P
some_supports_lem P I L s t =
    let w = set_word I (others I L) (λ M u. bit-small I I M (below_pow I) (T_and_l (bit I M) (not (eqb M L)) u)) in
    let lies : bit w.0 ⊑ bit I = subst (λ (z : Set ℕ). z ⊑ bit I) (sym w.1) (λ M u. T_and_l (bit I M) (not (eqb M L)) u) in
    let broken : is_model (reduct P I) w.0 ≡ false = ⊎_elim
    (λ m. absurd (other I L L (subst (λ (z : Set ℕ). T (z L)) w.1 (subst (λ (x : ℕ). T (bit x L)) (sym (s.minimal w.0 ((inside_bits w.0 I).1 lies) m)) t)) refl))
    (λ f. f)
    (dec (is_model (reduct P I) w.0)) in
    let c = some_in (violates I w.0) P (not-false _ (sym (model_some P I w.0) ∙ broken)) in
    (c.0, c.1, supports I L w.0 w.1 c.0 c.2 (none_each (violates I I) P (not-true _ (sym (model_some P I I) ∙ s.model)) c.0 c.1))

-- ---- literals at the node (k, w)
-- an unsupported node has a literal of w that no clause could support
module _ (P : List Clause) (k w : ℕ) where
  abbrev lacking : ℕ → Bool
  lacking L = bit w L && not (any_of (could_support k w L) P)

  pub unsupported_one : (unsupported P k w ≡ true) ↔ ((L : ℕ) × T (bit w L) × (any_of (could_support k w L) P ≡ false))
  unfolding unsupported
  unsupported_one = (
    λ t.
        let l = some_in lacking (below w) t in
        let b = both_true (bit w l.0) (not (any_of (could_support k w l.0) P)) l.2 in
        (l.0, true_T (bit w l.0) b.0, not-true _ b.1),
    λ l. in_some lacking (below w) l.0 (below_in w l.0 (bit-small w w l.0 (below_pow w) l.1))
        (and_is_true (bit w l.0) _ (T_true (bit w l.0) l.1) (ap not l.2)),
  )

has_bit : (w M : ℕ) → T (bit w M) ↔ Inside (2 ^ M) w
has_bit w M = (λ t. (inside_bits (2 ^ M) w).1 (λ i u. subst (λ (x : ℕ). T (bit w x)) (sym (in_pow M i u)) t), λ h. (inside_bits (2 ^ M) w).0 h M (pow_in M))

module _ (k w : ℕ) (z : w % 2 ^ k ≡ 0) where
  -- a literal of w is decided
  in_decided : (M : ℕ) → T (bit w M) → k ≤ M
  in_decided M t = ⊎_elim
      (λ l. clash (bit w M) (T_true _ t) (sym (bit_low w k M l) ∙ ap (λ x. bit x M) z ∙ bit_zero M))
      (λ g. g)
      (lt_or_ge M k)

  -- what is decided in is in every word below
  in_leaf : (r : ℕ) → r < 2 ^ k → bit w ⊑ bit (w + r)
  in_leaf r h = (inside_bits w (w + r)).0 (and_low k w w r z h ∙ rw (z, and_self, and_zero_l, add-zero))

  -- of what is put below, a decided literal does not change, and an undecided one is possible
  decided_same : (r M : ℕ) → r < 2 ^ k → k ≤ M → T (bit (w + r) M) → T (bit w M)
  decided_same r M h g t =
      let e : 2 ^ M ≡ 2 ^ k * 2 ^ (M - k) = ap (λ x. 2 ^ x) (omega arith) ∙ pow-add 2 k (M - k) in
      (has_bit w M).1 (sym (and_decided k (2 ^ M) w r z h (rw e (mul-mod_right (2 ^ k) (2 ^ (M - k))))) ∙ (has_bit (w + r) M).0 t)

  below-possible : (M : ℕ) → M < k → T (bit (possible k w) M)
  below-possible M h = (has_bit (possible k w) M).1 (
      let low : 2 ^ M % 2 ^ k ≡ 2 ^ M = mod-eq_of_lt (pow-lt h) in
      let none : bit_and (2 ^ M) w ≡ 0 = (apart_none (2 ^ M) w).1 (λ i t u. let q = in_pow M i t in absurd (omega (arith, in_decided i u))) in
      and_reach k (2 ^ M) w z ∙ rw (none, low, zero-add))

  -- "could still support" on words is what is said of each literal
  module _ (L : ℕ) (c : Clause) where
    support_said : could_support k w L c ≡ true → CouldSupport k w L c
    unfolding could_support
    support_said h =
        let a = both_true _ _ h in
        let b = both_true _ _ a.0 in
        let p = both_true (bit c.head L) (not (bit c.body L)) b.0 in
        let q = both_true _ _ a.1 in
        record {
          in_head = true_T (bit c.head L) p.0;
          not_in_body = λ t. clash (bit c.body L) (T_true _ t) (not-true _ p.1);
          no_body_out = λ M t o. o.1 (decided_same (2 ^ k - 1) M (ones_lt k) o.0 ((inside_bits c.body (possible k w)).0 (eqb-true _ _ b.1) M t));
          no_naf_in = λ M t i. (apart_none c.naf w).0 (eqb-true _ _ q.0) M t i.1;
          no_other_in = λ M t i. in_pow L M ((inside_bits (bit_and c.head w) (2 ^ L)).0 (eqb-true _ _ q.1) M (both_in c.head w M t i.1));
        }

    module _ (s : CouldSupport k w L c) where
      body-possible : bit c.body ⊑ bit (possible k w)
      body-possible M t =
          ⊎_elim (below-possible M) (λ g. ⊎_elim (in_leaf (2 ^ k - 1) (ones_lt k) M) (λ u. absurd (s.no_body_out M t (g, u))) (T? (bit w M))) (lt_or_ge M k)

      head_only : bit (bit_and c.head w) ⊑ bit (2 ^ L)
      head_only M t = let b = in_both c.head w M t in subst (λ (x : ℕ). T (bit (2 ^ L) x)) (sym (s.no_other_in M b.0 (in_decided M b.1, b.1))) (pow_in L)

      support_tested : could_support k w L c ≡ true
      unfolding could_support
      support_tested =
          rw (
            T_true (bit c.head L) s.in_head,
            not_T_false (bit c.body L) s.not_in_body,
            eq-eqb _ _ ((inside_bits c.body (possible k w)).1 body-possible),
            eq-eqb _ _ ((apart_none c.naf w).1 (λ M t u. s.no_naf_in M t (in_decided M u, u))),
            eq-eqb _ _ ((inside_bits (bit_and c.head w) (2 ^ L)).1 head_only),
          )

    pub support_exactly : (could_support k w L c ≡ true) ↔ CouldSupport k w L c
    support_exactly = (support_said, support_tested)

  -- "some literal decided in has no clause that could still support it"
  pub unsupported_exactly : (P : List Clause) → (unsupported P k w ≡ true) ↔ ((L : ℕ) × DecidedIn k w L × ((c : Clause) → c ∈ P → CouldSupport k w L c → ⊥))
  unsupported_exactly P = (
    λ t.
        let l = (unsupported_one P k w).0 t in
        (l.0, (in_decided l.0 l.1, l.1), λ c m s. clash _ (in_some (could_support k w l.0) P c m ((support_exactly l.0 c).1 s)) l.2),
    λ l. (unsupported_one P k w).1 (l.0, l.1.1, some_none (could_support k w l.0) P (λ c m. not_T_false _ (λ h. l.2 c m ((support_exactly l.0 c).0 (T_true _ h))))),
  )

  -- a clause that supports a literal in a leaf could support it at each node above
  module _ (r : ℕ) (h : r < 2 ^ k) where
    still_supports : (L : ℕ) (c : Clause) → Supports (w + r) L c → CouldSupport k w L c
    still_supports L c s = record {
      in_head = s.heads;
      not_in_body = s.not-bodies;
      no_body_out = λ M t o. o.1 (decided_same r M h o.0 (s.bodies M t));
      no_naf_in = λ M t i. s.nafs M t (in_leaf r h M i.1);
      no_other_in = λ M t i. s.only M t (in_leaf r h M i.1);
    }

    unsupported_below : (P : List Clause) → unsupported P k w ≡ true → StableWord P (w + r) → ⊥
    unsupported_below P t s =
        let l = (unsupported_exactly P).0 t in
        let c = some_supports_lem P (w + r) l.0 s (in_leaf r h l.0 l.1.1) in
        l.2 c.0 c.1 (still_supports l.0 c.0 c.2)

-- ---- the node test
module _ (P : List Clause) (k w : ℕ) where
  dead_either : dead P k w ≡ violated P k w || unsupported P k w
  unfolding dead node_test
  dead_either = go (violated P k w) (unsupported P k w)
    where
      go : (a b : Bool) → is_dead (told a b) ≡ a || b
      go true true = refl
      go true false = refl
      go false true = refl
      go false false = refl

  -- what document 01 calls dead is dead; a live node is not violated
  pub violated-dead : violated P k w ≡ true → dead P k w ≡ true
  violated-dead t = dead_either ∙ rw t

  pub alive_holds : dead P k w ≡ false → violated P k w ≡ false
  alive_holds f = (both_false _ _ (sym dead_either ∙ f)).0

  -- no leaf below a dead node is p-stable
  pub dead_below : (r : ℕ) → w % 2 ^ k ≡ 0 → r < 2 ^ k → dead P k w ≡ true → is_stable P (w + r) ≡ false
  dead_below r z h d = ⊎_elim
      (λ t. ⊎_elim
      (λ v. clash (is_stable P (w + r)) t (unstable_below k w r z h P v))
      (λ v. absurd (unsupported_below k w z r h P (rw v at (sym dead_either) ∙ d) (stable_word_lem P (w + r) t)))
      (dec (violated P k w)))
      (λ f. f)
      (dec (is_stable P (w + r)))
