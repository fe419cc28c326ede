-- The choices of one member, clause after clause: a head is set aside, or its literals are followed one after the other. Assumes nothing.
use Prim.Native.Nat.{ℕ, ◌+◌, ◌-◌, ◌^◌, ◌≤◌, ◌<◌}
use borrow.Author.Rules.{rules}
use borrow.Author.Tests.{ltb-true}
use lib.Count.{count_trailing_zeros, ones}
use lib.Dec.{ltb}
use lib.ListN.{length, get_or, set, length-set}
use lib.Seq.{get_or-set_other}
use mir.Syntax.{w64}
use mir.Val.{Fits}
use mathlib.Core.Bool.{Bool, true, false, ◌&&◌}
use mathlib.Core.List.{List, [], ◌∷◌, ◌++◌, flat_map, append_assoc, append-nil}
use mathlib.Core.Path.{◌≡◌, refl, sym, ap, ap₂, ◌∙◌, subst}
use native.Mathlib.Omega.{arith}
use Rattle.sets.specs.Lists.{onward, tabulate}
use Rattle.sets.specs.Words.{inside, put}
use Rattle.sets.proofs.Lists.{onward_step, onward_done}
use Rattle.sets.proofs.Tests.{both_true, via_true, via_false}
use Rattle.rising.specs.Growing.{held, Runs, Gathered}
use Rattle.literals.specs.Literals.{literals, low}
use Rattle.rising.specs.RisingSets.{add_all}
use Rattle.rising.proofs.Growing.{Growing, held-rising, grow_start, grow_call, grow_done, grow_over}
use Rattle.literals.proofs.Literals.{low_less, literals_low, literals_none, lowest-small}
use Rattle.heads.specs.Heads.{head_at, picks}
use Rattle.heads.proofs.Loops.{heads_same, heads_more}
use Rattle.heads.proofs.Picks.{head_first}
use Rattle.operator.specs.Operator.{WordRule, fired, Chosen}
use Rattle.operator.proofs.Operator.{fired-quiet, fired_one}

-- ---- what the next visit asks

pub next_within : (k count : ℕ) → k ≤ count → (k ≡ count → ⊥) → k + 1 ≤ count
next_within k count h n = omega (arith, n)

pub next_less : (k count t : ℕ) → count - k ≡ t → k ≤ count → (k ≡ count → ⊥) → count - (k + 1) < t
next_less k count t e h n = omega (arith, n)

pub aside_room : (h n : ℕ) (b : Bool) → b ≡ (ltb 1 (ones h) && ltb n 64) → b ≡ true → n < 64
aside_room h n b e t = ltb-true n 64 (both_true (ltb 1 (ones h)) (ltb n 64) (sym e ∙ t)).1

pub aside_within : (h n : ℕ) (b : Bool) → b ≡ (ltb 1 (ones h) && ltb n 64) → b ≡ true → n + 1 ≤ 64
aside_within h n b e t = omega (arith, aside_room h n b e t)

pub aside_long : (ws : List ℕ) (n h : ℕ) → length ws ≡ 64 → length (set ws n h) ≡ 64
aside_long ws n h e = length-set ws n h ∙ e

-- ---- the literals in `rest` are still to be followed, each into the heads set aside and those of the clauses behind

pub record Following (f : ℕ → WordRule) (count i k j : ℕ) (ws : List ℕ) (n : ℕ) (xs : List ℕ) (members : ℕ) (vs ys : List ℕ) (m rest : ℕ) : Type 0 where
  pub small : rest < 2 ^ 64
  pub same : (p : ℕ) → p < n → get_or vs p 0 ≡ get_or ws p 0
  pub long : length vs ≡ length ws
  pub grows : Growing (length xs) (add_all (picks (tabulate (head_at ws) n ++ fired i (onward f count k)) j) (held members xs))
      (flat_map (λ t. picks (tabulate (head_at ws) n ++ fired i (onward f count (k + 1))) (put t j)) (literals rest)) ys m

-- ---- the clauses f k, .., f (count - 1), with the first n heads of ws set aside: one law for each way to go on

module _ (f : ℕ → WordRule) (count i k j : ℕ) (ws : List ℕ) (n : ℕ) (xs : List ℕ) (members : ℕ) where
  abbrev all : List ℕ
  all = add_all (picks (tabulate (head_at ws) n ++ fired i (onward f count k)) j) (held members xs)

  abbrev after : ℕ → List ℕ
  after t = picks (tabulate (head_at ws) n ++ fired i (onward f count (k + 1))) (put t j)

  pub at_end : (out : List ℕ) (r : ℕ) → k ≡ count → Gathered (length xs) (add_all (picks (tabulate (head_at ws) n) j) (held members xs)) out r
      → Chosen (length xs) (add_all (picks (tabulate (head_at ws) n ++ fired i (onward f count k)) j) (held members xs)) out r n ws ws
  unfolding fired
  at_end out r e g = record {
    grown = subst (λ (H : List ℕ). Gathered (length xs) (add_all (picks H j) (held members xs)) out r)
        (sym (ap (λ (Q : List WordRule). tabulate (head_at ws) n ++ fired i Q) (onward_done f count k (omega arith)) ∙ append-nil (tabulate (head_at ws) n))) g;
    same = λ p l. refl;
    long = refl;
  }

  module _ (low : k ≤ count) (ne : k ≡ count → ⊥) where
    one : onward f count k ≡ f k ∷ onward f count (k + 1)
    one = onward_step f count k (omega (arith, ne))

    fires : inside (f k).body i ≡ true → fired i (onward f count k) ≡ (f k).head ∷ fired i (onward f count (k + 1))
    fires t = ap (fired i) one ∙ fired_one i (f k) (onward f count (k + 1)) t

    -- the clause does not fire
    pub passed : (out : List ℕ) (r : ℕ) (vs : List ℕ) → inside (f k).body i ≡ false
        → Chosen (length xs) (add_all (picks (tabulate (head_at ws) n ++ fired i (onward f count (k + 1))) j) (held members xs)) out r n ws vs
        → Chosen (length xs) (add_all (picks (tabulate (head_at ws) n ++ fired i (onward f count k)) j) (held members xs)) out r n ws vs
    passed out r vs q g = subst (λ (F : List ℕ). Chosen (length xs) (add_all (picks (tabulate (head_at ws) n ++ F) j) (held members xs)) out r n ws vs)
        (sym (ap (fired i) one ∙ fired-quiet i (f k) (onward f count (k + 1)) q)) g

    -- its head is set aside
    pub put_aside : (out : List ℕ) (r : ℕ) (vs : List ℕ) → inside (f k).body i ≡ true → length ws ≡ 64 → n < 64
        → Chosen (length xs) (add_all (picks (tabulate (head_at (set ws n (f k).head)) (n + 1) ++ fired i (onward f count (k + 1))) j) (held members xs)) out r (n + 1) (set ws n (f k).head) vs
        → Chosen (length xs) (add_all (picks (tabulate (head_at ws) n ++ fired i (onward f count k)) j) (held members xs)) out r n ws vs
    put_aside out r vs t w l g = record {
      grown = subst (λ (H : List ℕ). Gathered (length xs) (add_all (picks H j) (held members xs)) out r)
          (ap (λ (A : List ℕ). A ++ fired i (onward f count (k + 1))) (heads_more ws n (f k).head (omega arith))
          ∙ append_assoc (tabulate (head_at ws) n) ((f k).head ∷ []) (fired i (onward f count (k + 1))) ∙ ap (λ (F : List ℕ). tabulate (head_at ws) n ++ F) (sym (fires t))) g.grown;
      same = λ p q. g.same p (omega arith) ∙ get_or-set_other ws n p (f k).head 0 (λ e. omega (arith, e));
      long = g.long ∙ length-set ws n (f k).head;
    }

    -- its literals are followed
    pub follow_start : (h : ℕ) → h ≡ (f k).head → inside (f k).body i ≡ true → members ≤ length xs → Runs members xs → Fits w64 h
        → Following f count i k j ws n xs members ws xs members h
    follow_start h e t fits runs small = record {
      small = small.fits;
      same = λ p l. refl;
      long = refl;
      grows = subst (λ (l : List ℕ). Growing (length xs) l (flat_map after (literals h)) xs members)
          (sym (ap (λ (F : List ℕ). add_all (picks (tabulate (head_at ws) n ++ F) j) (held members xs)) (fires t)
          ∙ head_first (tabulate (head_at ws) n) (fired i (onward f count (k + 1))) (f k).head j (held members xs) (held-rising members xs)
          ∙ ap (λ (x : ℕ). add_all (flat_map after (literals x)) (held members xs)) (sym e)))
          (grow_start xs (flat_map after (literals h)) members fits runs);
    }

  module _ (vs ys : List ℕ) (m rest : ℕ) (c : Following f count i k j ws n xs members vs ys m rest) where
    pub follow_over : length ys < m → Chosen (length xs) (add_all (picks (tabulate (head_at ws) n ++ fired i (onward f count k)) j) (held members xs)) ys m n ws vs
    follow_over h = record { grown = grow_over (length xs) all (flat_map after (literals rest)) ys m c.grows (omega (arith, c.grows.long)); same = c.same; long = c.long }

    pub follow_done : rest ≡ 0 → Chosen (length xs) (add_all (picks (tabulate (head_at ws) n ++ fired i (onward f count k)) j) (held members xs)) ys m n ws vs
    unfolding flat_map
    follow_done e = record {
      grown = grow_done (length xs) all (flat_map after (literals rest)) ys m c.grows (ap (flat_map after) (ap literals e ∙ literals_none));
      same = c.same;
      long = c.long;
    }

    pub follow_runs : m ≤ length ys → Runs m ys
    follow_runs h = c.grows.runs (omega (arith, c.grows.long))

    pub follow_wide : length ws ≡ 64 → length vs ≡ 64
    follow_wide e = c.long ∙ e

    pub follow_long : length ys ≡ length xs
    follow_long = c.grows.long

    pub follow_literal : (t : ℕ) → (rest ≡ 0 → ⊥) → t ≡ count_trailing_zeros 64 rest → t < 64
    follow_literal t ne e = lowest-small rest t ne c.small e

    pub follow_step : (t v r : ℕ) (out us : List ℕ) → (rest ≡ 0 → ⊥) → m ≤ length ys → t ≡ count_trailing_zeros 64 rest → v ≡ put t j
        → Chosen (length ys) (add_all (picks (tabulate (head_at vs) n ++ fired i (onward f count (k + 1))) v) (held m ys)) out r n vs us
        → Following f count i k j ws n xs members us out r (low rest)
    unfolding flat_map
    follow_step t v r out us ne h e p g =
        let put_in : picks (tabulate (head_at vs) n ++ fired i (onward f count (k + 1))) v ≡ after (count_trailing_zeros 64 rest) =
        ap₂ (λ (A : List ℕ) (u : ℕ). picks (A ++ fired i (onward f count (k + 1))) u) (heads_same ws n vs c.same) (p ∙ ap (λ (u : ℕ). put u j) e) in
        record {
          small = omega (arith, low_less rest ne, c.small);
          same = λ q o. g.same q o ∙ c.same q o;
          long = g.long ∙ c.long;
          grows = grow_call (length xs) all (picks (tabulate (head_at vs) n ++ fired i (onward f count (k + 1))) v)
              (flat_map after (literals rest)) (flat_map after (literals (low rest))) ys out m r c.grows
              (ap (flat_map after) (literals_low rest ne c.small) ∙ ap (λ (x : List ℕ). x ++ flat_map after (literals (low rest))) (sym put_in))
              (omega (arith, c.grows.long)) g.grown;
        }

pub ruleset choosing = (
  next_within,
  next_less,
  aside_room,
  aside_within,
  aside_long,
  follow_over,
  follow_done,
  follow_runs,
  follow_wide,
  follow_long,
  follow_literal,
  follow_step,
  at_end,
  passed,
  put_aside,
  follow_start,
  low_less,
  via_true,
  via_false,
  rules,
)
