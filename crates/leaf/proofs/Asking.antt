-- The rows that are asked in a branch: of those in play the ones that mention the literal decided last. Assumes nothing.
use mathlib.Core.Path.{◌≡◌, refl, sym, ◌∙◌, subst}
use mathlib.Core.Bool.{Bool, true, false}
use mathlib.Core.Logic.{◌⊎◌, inl, inr, ⊎_elim}
use mathlib.Core.List.{List}
use Prim.Native.Nat.{ℕ, ◌-◌, ◌*◌, ◌%◌, ◌^◌, ◌≤◌, ◌<◌}
use native.Mathlib.Omega.{arith}
use lib.Bits.{bit_and, bit_or, and_zero_l}
use lib.Dec.{T, ltb, ltb→lt, lt→ltb}
use borrow.Author.Tests.{eq-eqb}
use Rattle.sets.specs.Lists.{any_of, tabulate}
use Rattle.sets.specs.Words.{bit, Inside, Highest}
use Rattle.sets.proofs.Tests.{dec, clash, and_is_true, true_T, T_and, T_and_l}
use Rattle.sets.proofs.Lists.{in_some}
use Rattle.sets.proofs.Digits.{inside_bits, bit-small}
use Rattle.sets.proofs.Branches.{in_or, or_left, or_right, both_in, in_both, in_pow, pow_in, Between, rest_less, in_wider, branches}
use Rattle.sets.proofs.Highest.{one_shl}
use Rattle.literals.specs.Literals.{members}
use Rattle.literals.proofs.Literals.{lit_in}
use Rattle.literals.proofs.Stepping.{some_asked}
use Rattle.program.specs.Clauses.{Clause}
use Rattle.columns.specs.Columns.{Columns, mentioned_in}
use Rattle.columns.specs.Play.{in_play, InPlay}
use Rattle.leaf.specs.Leaf.{rules_out, Handed}
use Rattle.leaf.proofs.Mentions.{ruling, newly_mentioned}
use Rattle.leaf.proofs.Subsets.{inside_trans, out_inside, in_inside, all_open}

-- ---- a row that rules out a subset of I is in play at I
module _ (at : ℕ → Clause) (n I rows : ℕ) (p : InPlay at n I I rows) where
  among : (i : ℕ) → T (bit rows i) → i < n
  among i t = ltb→lt i n (T_and_l (ltb i n) (in_play I I (at i)) (subst T (p.exactly i) t))

  ruling_plays : (J reach i : ℕ) → Inside J I → i < n → rules_out I J reach (at i) ≡ true → T (bit rows i)
  unfolding in_play
  ruling_plays J reach i s l h =
      let u = (ruling I J reach (at i)).0 h in
      let q = and_is_true _ _ (eq-eqb _ _ (inside_trans (at i).body J I u.0 s)) (eq-eqb _ _ u.1) in
      subst T (sym (p.exactly i)) (T_and (ltb i n) (in_play I I (at i)) (lt→ltb i n l) (true_T _ q))

  -- all subsets of a word: every row in play is asked
  pub all-handed : n ≤ 64 → I < 2 ^ 24 → Handed at n I 0 I rows rows
  all-handed few small = record {
    few = few;
    small = small;
    within = all_open I;
    plays = p;
    asked_in = among;
    asked_all = λ i l h. ruling_plays 0 (bit_or 0 I) i (and_zero_l I) l h;
  }

module _ (at : ℕ → Clause) (n I J R rows asked : ℕ) (g : Handed at n I J R rows asked) where
  -- asking the rows that are asked is asking all
  pub asked_of_all : {r : Bool} → r ≡ any_of (λ i. rules_out I J (bit_or J R) (at i)) (members asked) → r ≡ any_of (rules_out I J (bit_or J R)) (tabulate at n)
  asked_of_all e = e ∙ some_asked at n (rules_out I J (bit_or J R)) (rules_out I J (bit_or J R)) asked g.few (λ i t. (g.asked_in i t, refl)) g.asked_all

  -- ---- the literal that is decided next
  module _ (l : ℕ) (h : Highest R (2 ^ l)) where
    pub literal-small : l < 24
    literal-small = bit-small I 24 l g.small ((inside_bits (bit_or J R) I).0 g.within l
        (in_wider R (2 ^ l) h J l (or_left (bit_or J (2 ^ l)) (R - 2 ^ l) l (or_right J (2 ^ l) l (pow_in l)))))

    pub literal_fits : l < 32
    literal_fits = omega (arith, literal-small)

    pub literal_top : 1 * 2 ^ l % 2 ^ 32 ≡ 2 ^ l
    literal_top = one_shl 32 l literal_fits

    pub literal_highest : Highest R (1 * 2 ^ l % 2 ^ 32)
    literal_highest = subst (Highest R) (sym literal_top) h

    pub literal_within : 1 * 2 ^ l % 2 ^ 32 ≤ R
    literal_within = literal_highest.within

    pub literal_falls : (u : ℕ) → R ≡ u → R - 1 * 2 ^ l % 2 ^ 32 < u
    literal_falls u e = omega (arith, rest_less R (1 * 2 ^ l % 2 ^ 32) literal_highest)

  -- ---- where no row rules out, each branch asks of the rows in play those that mention the literal
  module _ (C : List ℕ) (K : Columns at n C) {r : Bool} (e : r ≡ any_of (λ i. rules_out I J (bit_or J R) (at i)) (members asked)) (f : r ≡ false)
      (l t m : ℕ) (h : Highest R t) (p : t ≡ 2 ^ l) (q : m ≡ mentioned_in C l) where
    none_here : (i : ℕ) → i < n → rules_out I J (bit_or J R) (at i) ≡ false
    none_here i b = ⊎_elim
        (λ u. clash r (e ∙ in_some (λ i. rules_out I J (bit_or J R) (at i)) (members asked) i (lit_in asked i (omega (arith, g.few)) (g.asked_all i b u)) u) f)
        (λ u. u)
        (dec (rules_out I J (bit_or J R) (at i)))

    handed : (J' R' : ℕ) → Inside (bit_or J' R') I → ((M : ℕ) → T (bit J' M) → T (bit J M) ⊎ (M ≡ l)) → ((M : ℕ) → T (bit (bit_or J R) M) → T (bit (bit_or J' R') M) ⊎ (M ≡ l))
        → Handed at n I J' R' rows (bit_and m rows)
    handed J' R' s w_only reach_kept = record {
      few = g.few;
      small = g.small;
      within = s;
      plays = g.plays;
      asked_in = λ i u. among at n I rows g.plays i (in_both m rows i u).1;
      asked_all = λ i b u. both_in m rows i
          (subst (λ (x : ℕ). T (bit x i)) (sym q)
          (newly_mentioned l I J (bit_or J R) I J' (bit_or J' R') (λ M v. inl v) w_only reach_kept at n C K (literal-small l (subst (Highest R) p h)) i b (none_here i b) u))
          (ruling_plays at n I rows g.plays J' (bit_or J' R') i ((inside_bits J' I).1 (λ M v. (inside_bits (bit_or J' R') I).0 s M (or_left J' R' M v))) b u);
    }

    top_is : (M : ℕ) → T (bit t M) → M ≡ l
    top_is M v = in_pow l M (subst (λ (x : ℕ). T (bit x M)) p v)

    -- the literal and the others make the whole
    whole : (M : ℕ) → T (bit (bit_or J R) M) → T (bit (bit_or (bit_or J t) (R - t)) M)
    whole M v = ⊎_elim
        (λ (b : Between J (R - t) (bit_or J R)).
        ⊎_elim (λ x. or_left (bit_or J t) (R - t) M (or_left J t M x)) (λ y. or_right (bit_or J t) (R - t) M y) (in_or J (R - t) M (b.within M v)))
        (λ (b : Between (bit_or J t) (R - t) (bit_or J R)). b.within M v)
        (branches R t h J (bit_or J R) (record { holds = λ M x. or_left J R M x; within = λ M x. x }))

    pub out_handed : Handed at n I J (R - t) rows (bit_and m rows)
    out_handed = handed J (R - t) (out_inside R t h J I g.within) (λ M v. inl v)
        (λ M v. ⊎_elim
        (λ x. ⊎_elim (λ y. inl (or_left J (R - t) M y)) (λ z. inr (top_is M z)) (in_or J t M x))
        (λ y. inl (or_right J (R - t) M y))
        (in_or (bit_or J t) (R - t) M (whole M v)))

    pub in_handed : Handed at n I (bit_or J t) (R - t) rows (bit_and m rows)
    in_handed = handed (bit_or J t) (R - t) (in_inside R t h J I g.within)
        (λ M v. ⊎_elim (λ x. inl x) (λ y. inr (top_is M y)) (in_or J t M v)) (λ M v. inl (whole M v))
