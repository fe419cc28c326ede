-- From a node to its children: the rows in play, and what the test of a child is handed. Assumes nothing.
use mathlib.Core.Path.{◌≡◌, refl, sym, ap, ◌∙◌, subst}
use mathlib.Core.Bool.{Bool, true, false, not, ◌&&◌, ◌||◌, and_assoc}
use mathlib.Core.Logic.{◌⊎◌, inl, inr, ⊎_elim}
use mathlib.Core.List.{List}
use Prim.Native.Nat.{ℕ, suc, ◌+◌, ◌-◌, ◌%◌, ◌^◌, ◌<◌}
use native.Mathlib.Nat.{mod-eq_of_lt, pow-suc, zero-add, zero-mod}
use native.Mathlib.Omega.{arith}
use lib.Dec.{T, eqb, ltb}
use lib.Pow.{pow_pos, pow-lt}
use lib.Bits.{bit_and, and_comm, or_disjoint}
use borrow.Author.Tests.{eqb-true, eq-eqb, lt-ltb, not-true}
use Rattle.sets.specs.Lists.{any_of, tabulate}
use Rattle.sets.specs.Words.{bit, Inside, Apart, inside, apart}
use Rattle.sets.proofs.Tests.{dec, clash, both_true, and_is_true, T_true, true_T, not_T_false, T?, T_ext, T_and, T_and_l, T_and_r, T_or, T_or_l, T_or_r}
use Rattle.sets.proofs.Lists.{some_in, none_each, in_some, in_up_from, up_from_in}
use Rattle.sets.proofs.Digits.{inside_bits, bit_zero, bit_pow, bit_low, bit-and, bit-or}
use Rattle.sets.proofs.Branches.{both_in, in_pow}
use Rattle.sets.proofs.Subsets.{inside_and}
use Rattle.literals.proofs.Literals.{bit_minus}
use Rattle.program.specs.Clauses.{Clause}
use Rattle.stable.proofs.Readings.{apart_none}
use Rattle.tree.specs.NodeTest.{violated_by, violated, possible, could_support, unsupported, told, node_test, is_dead, dead}
use Rattle.tree.proofs.Nodes.{and_reach, low_out, low_in}
use Rattle.tree.proofs.Support.{unsupported_one, alive_holds}
use Rattle.columns.specs.Columns.{Columns, body_column, naf_column, mentioned_in}
use Rattle.columns.specs.Play.{in_play, InPlay}
use Rattle.leaf.proofs.Mentions.{body_mentions, newly_mentioned}
use Rattle.node.specs.Node.{Handed}
use Rattle.node.proofs.Words.{violated_test}
use Rattle.node.proofs.Asking.{play_row, row-plays, violated-plays, supporter}

-- ---- words that differ in the literal m alone
-- b has not m: x lies in b where it lies in a and has not m
inside_less : (x a b m : ℕ) → ((i : ℕ) → bit b i ≡ bit a i && not (eqb i m)) → inside x b ≡ inside x a && not (bit x m)
inside_less x a b m h = T_ext _ _
    (λ t.
    let all : (i : ℕ) → T (bit x i) → T (bit a i && not (eqb i m)) = λ i u. subst T (h i) ((inside_bits x b).0 (eqb-true _ _ (T_true _ t)) i u) in
    T_and (inside x a) (not (bit x m)) (true_T _ (eq-eqb _ _ ((inside_bits x a).1 (λ i u. T_and_l (bit a i) (not (eqb i m)) (all i u)))))
    (true_T _ (ap not (not_T_false (bit x m) (λ u. clash (eqb m m) (eq-eqb m m refl) (not-true _ (T_true _ (T_and_r (bit a m) (not (eqb m m)) (all m u)))))))))
    (λ t.
    let all = (inside_bits x a).0 (eqb-true _ _ (T_true _ (T_and_l (inside x a) (not (bit x m)) t))) in
    let lacks = not-true (bit x m) (T_true _ (T_and_r (inside x a) (not (bit x m)) t)) in
    true_T _ (eq-eqb _ _ ((inside_bits x b).1 (λ i u. subst T (sym (h i)) (T_and (bit a i) (not (eqb i m)) (all i u)
    (true_T _ (ap not (not_T_false (eqb i m) (λ e. clash (bit x m) (T_true _ (subst (λ j. T (bit x j)) (eqb-true i m (T_true _ e)) u)) lacks)))))))))

-- b has m: x misses b where it misses a and has not m
apart_more : (x a b m : ℕ) → ((i : ℕ) → bit b i ≡ bit a i || eqb i m) → apart x b ≡ apart x a && not (bit x m)
apart_more x a b m h = T_ext _ _
    (λ t.
    let none : (i : ℕ) → T (bit x i) → T (bit a i || eqb i m) → ⊥ = λ i u v. (apart_none x b).0 (eqb-true _ _ (T_true _ t)) i u (subst T (sym (h i)) v) in
    T_and (apart x a) (not (bit x m)) (true_T _ (eq-eqb _ _ ((apart_none x a).1 (λ i u v. none i u (T_or_l (bit a i) (eqb i m) v)))))
    (true_T _ (ap not (not_T_false (bit x m) (λ u. none m u (T_or_r (bit a m) (eqb m m) (true_T _ (eq-eqb m m refl))))))))
    (λ t.
    let none = (apart_none x a).0 (eqb-true _ _ (T_true _ (T_and_l (apart x a) (not (bit x m)) t))) in
    let lacks = not-true (bit x m) (T_true _ (T_and_r (apart x a) (not (bit x m)) t)) in
    true_T _ (eq-eqb _ _ ((apart_none x b).1 (λ i u v. ⊎_elim
    (none i u)
    (λ e. clash (bit x m) (T_true _ (subst (λ j. T (bit x j)) (eqb-true i m (T_true _ e)) u)) lacks)
    (T_or (bit a i) (eqb i m) (subst T (h i) v))))))

-- ---- the words of the two children of the node (suc m, w)
module _ (m w : ℕ) (z : w % 2 ^ suc m ≡ 0) where
  not_in : bit w m ≡ false
  not_in = sym (bit_low w (suc m) m (omega arith)) ∙ ap (λ x. bit x m) z ∙ bit_zero m

  apart_pow : Apart w (2 ^ m)
  apart_pow = (apart_none w (2 ^ m)).1 (λ i t u. clash (bit w m) (T_true _ (subst (λ x. T (bit w x)) (in_pow m i u) t)) not_in)

  not_out : Inside (2 ^ m) (possible (suc m) w)
  not_out =
      let none : bit_and (2 ^ m) w ≡ 0 = and_comm (2 ^ m) w ∙ apart_pow in
      let low : 2 ^ m % 2 ^ suc m ≡ 2 ^ m = mod-eq_of_lt (pow-lt (omega arith)) in
      and_reach (suc m) (2 ^ m) w z ∙ rw (none, low, zero-add)

  -- the first can reach all that the node can but the literal m
  reach_first : (i : ℕ) → bit (possible m w) i ≡ bit (possible (suc m) w) i && not (eqb i m)
  reach_first i =
      let e : possible m w ≡ possible (suc m) w - 2 ^ m = omega (arith, pow-suc 2 m, pow_pos m) in
      ap (λ x. bit x i) e ∙ bit_minus (possible (suc m) w) (2 ^ m) i not_out ∙ ap (λ b. bit (possible (suc m) w) i && not b) (bit_pow m i)

  -- the second can reach all that the node can, and has the literal m
  reach_second : possible m (w + 2 ^ m) ≡ possible (suc m) w
  reach_second = omega (arith, pow-suc 2 m, pow_pos m)

  word-second : (i : ℕ) → bit (w + 2 ^ m) i ≡ bit w i || eqb i m
  word-second i = ap (λ x. bit x i) (sym (or_disjoint w (2 ^ m) apart_pow)) ∙ bit-or w (2 ^ m) i ∙ ap (λ b. bit w i || b) (bit_pow m i)

-- ---- rows at a node
module _ (at : ℕ → Clause) (n k w play : ℕ) (plays : InPlay at n (possible k w) w play) where
  -- without the rows of a column
  difference : (column i : ℕ) → bit (play - bit_and play column) i ≡ bit play i && not (bit (bit_and play column) i)
  difference column i = bit_minus play (bit_and play column) i (rw (and_comm play column) (inside_and column play))

  without : (column : ℕ) (has : ℕ → Bool) → ((i : ℕ) → bit column i ≡ ltb i n && has i)
      → (i : ℕ) → bit (play - bit_and play column) i ≡ ltb i n && (in_play (possible k w) w (at i) && not (has i))
  without column has h i = difference column i ∙ rw (bit-and play column i, plays.exactly i, h i) (go (ltb i n) (in_play (possible k w) w (at i)) (has i))
    where
      go : (r p c : Bool) → (r && p) && not ((r && p) && (r && c)) ≡ r && (p && not c)
      go true true true = refl
      go true true false = refl
      go true false c = refl
      go false p c = refl

-- ---- what could support a literal still could where its body can still be reached
module _ (k w L : ℕ) (c : Clause) (e : could_support k w L c ≡ true) where
  could_after : (m : ℕ) → in_play (possible m w) w c ≡ true → could_support m w L c ≡ true
  unfolding could_support in_play
  could_after m p =
      let a = both_true (bit c.head L && not (bit c.body L) && inside c.body (possible k w)) (apart c.naf w && inside (bit_and c.head w) (2 ^ L)) e in
      let b = both_true (bit c.head L && not (bit c.body L)) (inside c.body (possible k w)) a.0 in
      and_is_true _ _ (and_is_true _ _ b.0 (both_true (inside c.body (possible m w)) (apart c.naf w) p).0) a.1

alive_supported : (P : List Clause) (k w : ℕ) → dead P k w ≡ false → unsupported P k w ≡ false
unfolding dead node_test
alive_supported P k w = go (violated P k w) (unsupported P k w)
  where
    go : (a b : Bool) → is_dead (told a b) ≡ false → b ≡ false
    go true b e = clash true refl e
    go false true e = e
    go false false e = refl

-- ---- the root: nothing is decided in, so nothing is unsupported
pub handed_root : (at : ℕ → Clause) (n k play : ℕ) → InPlay at n (possible k 0) 0 play → Handed at n k 0 play play
handed_root at n k play plays = record {
  plays = plays;
  asked_all = λ i l v. row-plays at n (possible k 0) 0 play plays i l (violated-plays k 0 (zero-mod (2 ^ k)) (at i) v);
  supported_still = λ f s. ⊎_elim
      (λ t. let u = (unsupported_one (tabulate at n) k 0).0 t in clash (bit 0 u.0) (T_true _ u.1) (bit_zero u.0))
      (λ e. e)
      (dec (unsupported (tabulate at n) k 0));
}

-- ---- the children of the node (suc m, w), with the rows in play at it
module _ (at : ℕ → Clause) (n : ℕ) (C : List ℕ) (cols : Columns at n C) (m w play : ℕ) (l : m < 24) (z : w % 2 ^ suc m ≡ 0)
    (plays : InPlay at n (possible (suc m) w) w play) where
  -- deciding the literal out takes the rows with it in the body out of play; deciding it in those with it in the not-part
  pub play_first : InPlay at n (possible m w) w (play - bit_and play (body_column C m))
  unfolding in_play
  play_first = record {
    exactly = λ i. without at n (suc m) w play plays (body_column C m) (λ i. bit (at i).body m) (cols.bodies m l) i
        ∙ rw (inside_less (at i).body (possible (suc m) w) (possible m w) m (reach_first m w z))
        (ap (λ b. ltb i n && b) (go (inside (at i).body (possible (suc m) w)) (apart (at i).naf w) (not (bit (at i).body m))));
  }
    where
      go : (a b c : Bool) → (a && b) && c ≡ (a && c) && b
      go true true true = refl
      go true true false = refl
      go true false true = refl
      go true false false = refl
      go false b c = refl

  pub play_second : InPlay at n (possible m (w + 2 ^ m)) (w + 2 ^ m) (play - bit_and play (naf_column C m))
  unfolding in_play
  play_second = record {
    exactly = λ i. without at n (suc m) w play plays (naf_column C m) (λ i. bit (at i).naf m) (cols.nafs m l) i
        ∙ rw (reach_second m w z, apart_more (at i).naf w (w + 2 ^ m) m (word-second m w z), and_assoc);
  }

  -- the node is alive
  module _ (alive : dead (tabulate at n) (suc m) w ≡ false) where
    -- the rows in play that mention the literal
    abbrev asked : ℕ
    asked = bit_and (mentioned_in C m) play

    -- among them are those that are violated at a child with the word v, which differs from the node in the literal alone
    child_asks : (v column : ℕ) → v % 2 ^ m ≡ 0 → InPlay at n (possible m v) v (play - bit_and play column)
        → ((M : ℕ) → T (bit (possible (suc m) w) M) → T (bit (possible m v) M) ⊎ (M ≡ m)) → ((M : ℕ) → T (bit v M) → T (bit w M) ⊎ (M ≡ m))
        → (i : ℕ) → i < n → violated_by m v (at i) ≡ true → T (bit asked i)
    unfolding tabulate violated
    child_asks v column y stays reaches holds i h e =
        let f = none_each (violated_by (suc m) w) (tabulate at n) (alive_holds (tabulate at n) (suc m) w alive) (at i) (in_up_from at n 0 i (omega arith) (omega arith)) in
        let t = row-plays at n (possible m v) v (play - bit_and play column) stays i h (violated-plays m v y (at i) e) in
        both_in (mentioned_in C m) play i
        (newly_mentioned m (possible (suc m) w) w (possible (suc m) w) (possible m v) v (possible m v) reaches holds reaches at n C cols l i h
        (violated_test (suc m) w z (at i) ∙ f) (violated_test m v y (at i) ∙ e))
        (T_and_l (bit play i) (not (bit (bit_and play column) i)) (subst T (difference at n (suc m) w play plays column i) t))

    -- ---- the first child
    module _ (s : Inside asked (play - bit_and play (body_column C m))) where
      -- no row that mentions the literal has left the play, so what could support a literal still could
      still_supports : (L i : ℕ) → i < n → could_support (suc m) w L (at i) ≡ true → could_support m w L (at i) ≡ true
      still_supports L i h e =
          let p = (supporter (suc m) w L (at i) e).1 in
          let stays : T (bit (play - bit_and play (body_column C m)) i) = ⊎_elim
          (λ t. (inside_bits asked (play - bit_and play (body_column C m))).0 s i
          (both_in (mentioned_in C m) play i (body_mentions at n C cols m l i h t) (row-plays at n (possible (suc m) w) w play plays i h p)))
          (λ d. true_T _ (without at n (suc m) w play plays (body_column C m) (λ i. bit (at i).body m) (cols.bodies m l) i
          ∙ and_is_true _ _ (lt-ltb i n h) (and_is_true _ _ p (ap not (not_T_false (bit (at i).body m) d)))))
          (T? (bit (at i).body m)) in
          could_after (suc m) w L (at i) e m (play_row at n (possible m w) w (play - bit_and play (body_column C m)) play_first i stays).1

      all_supported : unsupported (tabulate at n) m w ≡ false
      unfolding tabulate
      all_supported = ⊎_elim
          (λ t.
          let u = (unsupported_one (tabulate at n) m w).0 t in
          ⊎_elim
          (λ some.
          let c = some_in (could_support (suc m) w u.0) (tabulate at n) some in
          let i = up_from_in at n 0 c.0 c.1 in
          let e = still_supports u.0 i.0 (omega (arith, i.2)) (ap (could_support (suc m) w u.0) (sym i.3) ∙ c.2) in
          clash _ (in_some (could_support m w u.0) (tabulate at n) c.0 c.1 (ap (could_support m w u.0) i.3 ∙ e)) u.2)
          (λ none. clash _ ((unsupported_one (tabulate at n) (suc m) w).1 (u.0, u.1, none)) (alive_supported (tabulate at n) (suc m) w alive))
          (dec (any_of (could_support (suc m) w u.0) (tabulate at n))))
          (λ f. f)
          (dec (unsupported (tabulate at n) m w))

    pub handed_first : Handed at n m w (play - bit_and play (body_column C m)) asked
    handed_first = record {
      plays = play_first;
      asked_all = child_asks w (body_column C m) (low_out m w z) play_first
          (λ M t. ⊎_elim
          (λ e. inr (eqb-true M m e))
          (λ f. inl (true_T _ (reach_first m w z M ∙ and_is_true (bit (possible (suc m) w) M) (not (eqb M m)) (T_true _ t) (ap not f))))
          (dec (eqb M m)))
          (λ M t. inl t);
      supported_still = λ f s. all_supported s;
    }

    -- ---- the second child, which has the literal
    pub handed-second : Handed at n m (w + 2 ^ m) (play - bit_and play (naf_column C m)) asked
    handed-second = record {
      plays = play_second;
      asked_all = child_asks (w + 2 ^ m) (naf_column C m) (low_in m w z) play_second
          (λ M t. inl (rw (reach_second m w z) t))
          (λ M t. ⊎_elim (λ u. inl u) (λ e. inr (eqb-true M m (T_true _ e))) (T_or (bit w M) (eqb M m) (subst T (word-second m w z M) t)));
      supported_still = λ f s. clash (bit (w + 2 ^ m) m) (word-second m w z m ∙ rw (not_in m w z, eq-eqb m m refl)) f;
    }
