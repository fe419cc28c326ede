-- Asking some rows for a violation and some for support is asking all. Assumes nothing.
use mathlib.Core.Path.{◌≡◌, refl, sym, ap, ◌∙◌, subst}
use mathlib.Core.Bool.{Bool, true, false, not, ◌&&◌}
use mathlib.Core.Logic.{◌⊎◌, ⊎_elim}
use mathlib.Core.List.{List}
use Prim.Native.Nat.{ℕ, ◌-◌, ◌*◌, ◌%◌, ◌^◌, ◌≤◌, ◌<◌}
use native.Mathlib.Omega.{arith}
use lib.Bits.{bit_and, and_self}
use lib.Dec.{T, eqb, ltb}
use lib.Pow.{pow_pos}
use borrow.Author.Tests.{eqb-true, eq-eqb, ne_eqb, ltb-true, lt-ltb, not-true}
use Rattle.sets.specs.Lists.{any_of, tabulate}
use Rattle.sets.specs.Words.{◌⊑◌, bit, inside, apart}
use Rattle.sets.proofs.Tests.{dec, clash, both_true, and_is_true, T_true, true_T, T?, T_and_l, not_T_false}
use Rattle.sets.proofs.Lists.{some_in, in_some}
use Rattle.sets.proofs.Digits.{bit-small, inside_bits, bits_ext}
use Rattle.sets.proofs.Subsets.{inside_and}
use Rattle.sets.proofs.Highest.{one_shl}
use Rattle.sets.proofs.Gathering.{Gathering, gather_done}
use Rattle.sets.proofs.Branches.{both_in, in_both, in_pow, pow_in}
use Rattle.literals.specs.Literals.{members, Lowest}
use Rattle.literals.proofs.Literals.{lit_in, lit_out, bit_minus}
use Rattle.literals.proofs.Stepping.{Stepping, lowest_in, step_others, step_start, step_member, step_hit, step_next, step_done, some_asked}
use Rattle.program.specs.Clauses.{Clause}
use Rattle.stable.proofs.Readings.{apart_none}
use Rattle.tree.specs.declared.NodeStatus.TheVariants.{Alive, Violated, Unsupported}
use Rattle.tree.specs.NodeTest.{decided, violated_by, violated, possible, could_support, unsupported, node_test}
use Rattle.tree.proofs.Nodes.{and_reach}
use Rattle.tree.proofs.Support.{unsupported_one}
use Rattle.columns.specs.Columns.{head_column, Columns}
use Rattle.columns.specs.Play.{in_play, InPlay}
use Rattle.leaf.specs.Leaf.{rules_out}
use Rattle.node.specs.Node.{Placed, AtNode, Handed, supports_alone}
use Rattle.node.proofs.Words.{violated_test}

-- ---- rows in play
module _ (at : ℕ → Clause) (n reach w s : ℕ) (plays : InPlay at n reach w s) (i : ℕ) where
  pub play_row : T (bit s i) → (i < n) × (in_play reach w (at i) ≡ true)
  play_row t = let b = both_true (ltb i n) (in_play reach w (at i)) (sym (plays.exactly i) ∙ T_true (bit s i) t) in (ltb-true i n b.0, b.1)

  pub row-plays : i < n → in_play reach w (at i) ≡ true → T (bit s i)
  row-plays h e = true_T (bit s i) (plays.exactly i ∙ and_is_true (ltb i n) _ (lt-ltb i n h) e)

pub play_gathered : (at : ℕ → Clause) (n reach w i s : ℕ) → Gathering (λ k. in_play reach w (at k)) n i s → n ≤ i → InPlay at n reach w s
play_gathered at n reach w i s g h = record { exactly = gather_done (λ k. in_play reach w (at k)) n i s g h }

-- a violated row is in play
pub violated-plays : (k w : ℕ) → w % 2 ^ k ≡ 0 → (c : Clause) → violated_by k w c ≡ true → in_play (possible k w) w c ≡ true
unfolding violated_by in_play
violated-plays k w z c h =
    let a = both_true _ _ h in
    let b = both_true _ _ a.0 in
    let body = both_true (decided k c.body) (inside c.body w) b.0 in
    let naf = both_true (decided k c.naf) (apart c.naf w) b.1 in
    let d : c.body % 2 ^ k ≡ 0 = eqb-true _ _ body.0 in
    let i : bit_and c.body w ≡ c.body = eqb-true _ _ body.1 in
    let r : bit_and c.body (possible k w) ≡ c.body = omega (arith, and_reach k c.body w z) in
    and_is_true (inside c.body (possible k w)) (apart c.naf w) (eq-eqb _ _ r) naf.1

-- ---- the rows that are asked for a violation
module _ (at : ℕ → Clause) (n k w reach play mentioned : ℕ) (node : AtNode n k w reach) (h : Handed at n k w play mentioned) where
  pub violated_asked : {r : Bool} → r ≡ any_of (λ i. rules_out reach w reach (at i)) (members (bit_and mentioned play)) → r ≡ violated (tabulate at n) k w
  unfolding violated
  violated_asked e = e ∙ some_asked at n (violated_by k w) (rules_out reach w reach) (bit_and mentioned play) node.short
      (λ i t. (
        (play_row at n (possible k w) w play h.plays i (in_both mentioned play i t).1).0,
        ap (λ (x : ℕ). rules_out x w x (at i)) node.reaches ∙ violated_test k w node.placed.low (at i),
      ))
      (λ i l v. both_in mentioned play i (h.asked_all i l v)
      (row-plays at n (possible k w) w play h.plays i l (violated-plays k w node.placed.low (at i) v)))

  module _ {r : Bool} (e : r ≡ any_of (λ i. rules_out reach w reach (at i)) (members (bit_and mentioned play))) where
    pub test_violated : r ≡ true → Violated ≡ node_test (tabulate at n) k w
    unfolding node_test
    test_violated t = rw (← violated_asked e, t)

    module _ (f : r ≡ false) {s : Bool} where
      pub test_settled : s ≡ not (bit w k) && eqb (bit_and mentioned play) mentioned → s ≡ true → Alive ≡ node_test (tabulate at n) k w
      unfolding node_test
      test_settled g t =
          let b = both_true (not (bit w k)) (eqb (bit_and mentioned play) mentioned) (sym g ∙ t) in
          rw (← violated_asked e, f, h.supported_still (not-true (bit w k) b.0) (eqb-true _ _ b.1))

      pub test_unsupported : s ≡ unsupported (tabulate at n) k w → s ≡ true → Unsupported ≡ node_test (tabulate at n) k w
      unfolding node_test
      test_unsupported g t = rw (← violated_asked e, f, ← g, t)

      pub test_alive : s ≡ unsupported (tabulate at n) k w → s ≡ false → Alive ≡ node_test (tabulate at n) k w
      unfolding node_test
      test_alive g t = rw (← violated_asked e, f, ← g, t)

-- ---- the rows that are asked for support
-- a word with the bit L is that bit alone where it lies in it; it is apart from the bit where it has it not
one_alone : (x L : ℕ) → T (bit x L) → eqb x (2 ^ L) ≡ inside x (2 ^ L)
one_alone x L t = ⊎_elim
    (λ i. let e : x ≡ 2 ^ L = bits_ext x (2 ^ L) ((inside_bits x (2 ^ L)).0 (eqb-true _ _ i)) (λ M u. subst (λ (y : ℕ). T (bit x y)) (sym (in_pow L M u)) t) in eq-eqb x (2 ^ L) e ∙ sym i)
    (λ o. ne_eqb x (2 ^ L) (λ e. clash (inside x (2 ^ L)) (eq-eqb _ _ (ap (λ (y : ℕ). bit_and y (2 ^ L)) e ∙ and_self (2 ^ L) ∙ sym e)) o) ∙ sym o)
    (dec (inside x (2 ^ L)))

one_apart : (x L : ℕ) → apart x (2 ^ L) ≡ not (bit x L)
one_apart x L = ⊎_elim
    (λ t. ne_eqb _ 0 (λ e. (apart_none x (2 ^ L)).0 e L (true_T (bit x L) t) (pow_in L)) ∙ sym (ap not t))
    (λ f. eq-eqb _ 0 ((apart_none x (2 ^ L)).1 (λ M t u. clash (bit x L) (T_true _ (subst (λ (y : ℕ). T (bit x y)) (in_pow L M u) t)) f)) ∙ sym (ap not f))
    (dec (bit x L))

-- a clause in play with the literal L of w in its head could support it where the head has no other literal of w, and the body has it not
alone : (k w L : ℕ) (c : Clause) → T (bit w L) → T (bit c.head L) → in_play (possible k w) w c ≡ true → supports_alone w (2 ^ L) c ≡ could_support k w L c
unfolding in_play could_support
alone k w L c u t p =
    let q = both_true (inside c.body (possible k w)) (apart c.naf w) p in
    rw (q.0, q.1, T_true (bit c.head L) t, one_alone (bit_and c.head w) L (both_in c.head w L t u), one_apart c.body L)
    (swap (inside (bit_and c.head w) (2 ^ L)) (not (bit c.body L)))
  where
    swap : (a b : Bool) → a && b ≡ ((true && b) && true) && (true && a)
    swap true true = refl
    swap true false = refl
    swap false true = refl
    swap false false = refl

-- what could support has the literal in its head, and is in play
pub supporter : (k w L : ℕ) (c : Clause) → could_support k w L c ≡ true → T (bit c.head L) × (in_play (possible k w) w c ≡ true)
unfolding in_play could_support
supporter k w L c h =
    let a = both_true _ _ h in
    let b = both_true _ _ a.0 in
    let p = both_true (bit c.head L) (not (bit c.body L)) b.0 in
    let q = both_true _ _ a.1 in
    (true_T (bit c.head L) p.0, and_is_true _ _ b.1 q.0)

-- a literal of w without support
abbrev pub lacks : (ℕ → Clause) → ℕ → ℕ → ℕ → ℕ → Bool
lacks at n k w L = not (any_of (could_support k w L) (tabulate at n))

-- none of the literals of w that are passed is without, and what could support one that is left is among the rows
pub record Lacking (at : ℕ → Clause) (n k w play left rows : ℕ) : Type 0 where
  pub steps : Stepping (lacks at n k w) w left
  pub of_play : bit rows ⊑ bit play
  pub kept : (L i : ℕ) → T (bit left L) → i < n → could_support k w L (at i) ≡ true → T (bit rows i)

pub lacking_start : (at : ℕ → Clause) (n k w play : ℕ) → InPlay at n (possible k w) w play → Lacking at n k w play w play
lacking_start at n k w play plays = record {
  steps = step_start (lacks at n k w) w;
  of_play = λ i t. t;
  kept = λ L i t l v. row-plays at n (possible k w) w play plays i l (supporter k w L (at i) v).1;
}

-- the head of what could support L has no other literal of w
supports_only : (k w L : ℕ) (c : Clause) → could_support k w L c ≡ true → (M : ℕ) → T (bit (bit_and c.head w) M) → M ≡ L
unfolding could_support
supports_only k w L c h M t =
    let open_body = bit c.head L && not (bit c.body L) && inside c.body (possible k w) in
    let a = both_true open_body (apart c.naf w && inside (bit_and c.head w) (2 ^ L)) h in
    let q = both_true (apart c.naf w) (inside (bit_and c.head w) (2 ^ L)) a.1 in
    in_pow L M ((inside_bits (bit_and c.head w) (2 ^ L)).0 (eqb-true _ _ q.1) M t)

module _ (at : ℕ → Clause) (n k w play : ℕ) (C : List ℕ) (few : n ≤ 64) (placed : Placed k w) (cols : Columns at n C) (plays : InPlay at n (possible k w) w play) where
  -- the literals of w are below 24
  pub literal-small : (L : ℕ) → T (bit w L) → L < 24
  literal-small L t = bit-small w 24 L (omega (arith, placed.fits, pow_pos k)) t

  -- where a literal of w is in the head of row i, its column has the row
  in_column : (L i : ℕ) → T (bit w L) → T (bit (head_column C L) i) → T (bit (at i).head L)
  in_column L i t b = true_T _ (both_true (ltb i n) (bit (at i).head L) (sym (cols.heads L (literal-small L t) i) ∙ T_true _ b)).1

  column_has : (L i : ℕ) → T (bit w L) → i < n → T (bit (at i).head L) → T (bit (head_column C L) i)
  column_has L i t l h = true_T _ (cols.heads L (literal-small L t) i ∙ and_is_true (ltb i n) _ (lt-ltb i n l) (T_true _ h))

  -- asking its column's rows is asking all, where those that could support it are among the rows
  pub supported_asked : (L rows : ℕ) → T (bit w L) → bit rows ⊑ bit play → ((i : ℕ) → i < n → could_support k w L (at i) ≡ true → T (bit rows i))
      → any_of (λ i. supports_alone w (2 ^ L) (at i)) (members (bit_and (head_column C L) rows)) ≡ any_of (could_support k w L) (tabulate at n)
  supported_asked L rows t of_play kept = some_asked at n (could_support k w L) (supports_alone w (2 ^ L)) (bit_and (head_column C L) rows) few
      (λ i m.
      let b = in_both (head_column C L) rows i m in
      let r = play_row at n (possible k w) w play plays i (of_play i b.1) in
      (r.0, alone k w L (at i) t (in_column L i t b.0) r.1))
      (λ i l v. both_in (head_column C L) rows i (column_has L i t l (supporter k w L (at i) v).0) (kept i l v))

  -- the members of w that lack support are those that the definition looks for
  pub lacking_all : any_of (lacks at n k w) (members w) ≡ unsupported (tabulate at n) k w
  lacking_all = ⊎_elim
      (λ u.
      let l = (unsupported_one (tabulate at n) k w).0 u in
      in_some (lacks at n k w) (members w) l.0 (lit_in w l.0 (omega (arith, literal-small l.0 l.1)) l.1) (ap not l.2) ∙ sym u)
      (λ f. ⊎_elim
      (λ a.
      let m = some_in (lacks at n k w) (members w) a in
      clash (unsupported (tabulate at n) k w) ((unsupported_one (tabulate at n) k w).1 (m.0, (lit_out w m.0 m.1).1, not-true _ m.2)) f)
      (λ b. b ∙ sym f)
      (dec (any_of (lacks at n k w) (members w))))
      (dec (unsupported (tabulate at n) k w))

  -- ---- the loop over the literals of w
  module _ (left rows : ℕ) (s : Lacking at n k w play left rows) (d : left ≡ 0 → ⊥) {t : ℕ} (e : Lowest left t) where
    in_word : T (bit w t)
    in_word = step_member (lacks at n k w) w left s.steps d e

    pub literal_in : t < 32
    literal_in = omega (arith, literal-small t in_word)

    difference : (i : ℕ) → bit (rows - bit_and (head_column C t) rows) i ≡ bit rows i && not (bit (bit_and (head_column C t) rows) i)
    difference i = bit_minus rows (bit_and (head_column C t) rows) i (inside_and (head_column C t) rows)

    -- a row with the literal in its head supports no other literal of w
    others_kept : (L i : ℕ) → T (bit (bit_and left (left - 1)) L) → i < n → could_support k w L (at i) ≡ true → T (bit (rows - bit_and (head_column C t) rows) i)
    others_kept L i b l v = ⊎_elim
        (λ h.
        let m = supports_only k w L (at i) v t (both_in (at i).head w t (in_column t i in_word (in_both (head_column C t) rows i h).0) in_word) in
        let o = step_others left d e L b in
        absurd (omega arith))
        (λ o. true_T _ (difference i ∙ and_is_true (bit rows i) _ (T_true _ (s.kept L i (in_both left (left - 1) L b).0 l v)) (ap not (not_T_false (bit (bit_and (head_column C t) rows) i) o))))
        (T? (bit (bit_and (head_column C t) rows) i))

    module _ {r : Bool} (q : r ≡ any_of (λ i. supports_alone w (1 * 2 ^ t % 2 ^ 32) (at i)) (members (bit_and (head_column C t) rows))) where
      tested : not r ≡ lacks at n k w t
      tested = ap not (q ∙ ap (λ (b : ℕ). any_of (λ i. supports_alone w b (at i)) (members (bit_and (head_column C t) rows))) (one_shl 32 t literal_in)
          ∙ supported_asked t rows in_word s.of_play (λ i l v. s.kept t i (lowest_in left d e) l v))

      pub lacking_hit : not r ≡ true → true ≡ unsupported (tabulate at n) k w
      lacking_hit h = step_hit (lacks at n k w) w left s.steps d e tested h ∙ lacking_all

      pub lacking_next : not r ≡ false → Lacking at n k w play (bit_and left (left - 1)) (rows - bit_and (head_column C t) rows)
      lacking_next h = record {
        steps = step_next (lacks at n k w) w left s.steps d e tested h;
        of_play = λ i b. s.of_play i (T_and_l (bit rows i) _ (subst T (difference i) b));
        kept = others_kept;
      }

  pub lacking_none : (left rows : ℕ) → Lacking at n k w play left rows → left ≡ 0 → false ≡ unsupported (tabulate at n) k w
  lacking_none left rows s z = step_done (lacks at n k w) w left s.steps z ∙ lacking_all
