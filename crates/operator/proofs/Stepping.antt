-- One stage from the one before. Assumes nothing.
use Prim.Native.Nat.{ℕ, ◌+◌, ◌≤◌, ◌<◌}
use borrow.Author.Rules.{rules}
use lib.ListN.{length, get_or, take, drop, drop_of_length-le}
use lib.Seq.{drop-cons, length-take-le, get_or-take}
use mathlib.Core.Bool.{Bool, true}
use mathlib.Core.List.{List, ◌∷◌, ◌++◌, flat_map}
use mathlib.Core.Path.{◌≡◌, sym, ap, ap₂, ◌∙◌, subst}
use native.Mathlib.Numerals.{add-one}
use native.Mathlib.Omega.{arith}
use Rattle.sets.specs.Lists.{up_from, onward, tabulate}
use Rattle.sets.proofs.Lists.{onward_start, lacks_start, lacks_hit, lacks_more, lacks_none}
use Rattle.sets.proofs.Tests.{via}
use Rattle.sets.specs.Words.{inside}
use Rattle.rising.proofs.Growing.{Growing, no_runs, held_none, gathered_as, gathered_held, settled_grown, over-grown, grow_start, grow_call, grow_done, grow_over}
use Rattle.heads.specs.Heads.{head_at, picks}
use Rattle.operator.proofs.Operator.{choices-picks, barred_none, next_is}
use Rattle.rising.specs.Growing.{Grown, held, Runs, Gathered, Settled}
use Rattle.operator.specs.Operator.{WordRule, rule_at, choices, fired, barred, next, Chosen}
use Rattle.rising.specs.RisingSets.{add_all}

-- ---- what one member gives

module _ (hs bs : List ℕ) (count i : ℕ) (xs : List ℕ) (members : ℕ) where
  pub gives_none : (b : Bool) → members ≤ length xs → Runs members xs → b ≡ barred i (tabulate (rule_at hs bs) count) → b ≡ true
      → Gathered (length xs) (add_all (choices i (tabulate (rule_at hs bs) count) i) (held members xs)) xs members
  unfolding add_all
  gives_none b h runs e t = gathered_as (length xs) (held members xs) (add_all (choices i (tabulate (rule_at hs bs) count) i) (held members xs)) xs members
      (ap (λ (l : List ℕ). add_all l (held members xs)) (barred_none i (tabulate (rule_at hs bs) count) (sym e ∙ t) i))
      (gathered_held xs members h runs)

  -- no head is set aside yet
  pub gives_all : (ws vs out : List ℕ) (r : ℕ) → Chosen (length xs) (add_all (picks (tabulate (head_at ws) 0 ++ fired i (onward (rule_at hs bs) count 0)) i) (held members xs)) out r 0 ws vs
      → Gathered (length xs) (add_all (choices i (tabulate (rule_at hs bs) count) i) (held members xs)) out r
  unfolding tabulate up_from
  gives_all ws vs out r g =
      gathered_as (length xs) (add_all (picks (fired i (onward (rule_at hs bs) count 0)) i) (held members xs)) (add_all (choices i (tabulate (rule_at hs bs) count) i) (held members xs)) out r
      (ap (λ (l : List ℕ). add_all l (held members xs))
      (choices-picks i (tabulate (rule_at hs bs) count) i ∙ ap (λ (Q : List WordRule). picks (fired i Q) i) (sym (onward_start (rule_at hs bs) count))))
      g.grown

-- ---- the members from p on have still to give

pub record Stepping (Q : List WordRule) (now : List ℕ) (members : ℕ) (xs ys : List ℕ) (n p : ℕ) : Type 0 where
  pub inside : members ≤ length now
  pub within : p ≤ members
  pub grows : Growing (length xs) (next Q (take members now)) (flat_map (λ i. choices i Q i) (drop p (take members now))) ys n

module _ (Q : List WordRule) (now : List ℕ) (members : ℕ) (xs : List ℕ) where
  pub step_start : members ≤ length now → Stepping Q now members xs xs 0 0
  step_start h = record {
    inside = h;
    within = omega arith;
    grows = subst (λ (l : List ℕ). Growing (length xs) l (flat_map (λ i. choices i Q i) (take members now)) xs 0)
        (ap (add_all (flat_map (λ i. choices i Q i) (take members now))) (held_none xs) ∙ next_is Q (take members now))
        (grow_start xs (flat_map (λ i. choices i Q i) (take members now)) 0 (omega arith) (no_runs xs));
  }

  module _ (ys : List ℕ) (n p : ℕ) (s : Stepping Q now members xs ys n p) where
    pub step_over : length ys < n → Grown (length xs) (next Q (take members now)) ys n
    step_over h = over-grown (length xs) (next Q (take members now)) ys n
        (grow_over (length xs) (next Q (take members now)) (flat_map (λ i. choices i Q i) (drop p (take members now))) ys n s.grows (omega (arith, s.grows.long))) h

    pub step_done : (out : List ℕ) → members ≤ p → Settled ys n out → Grown (length xs) (next Q (take members now)) out n
    unfolding flat_map
    step_done out h o = settled_grown (length xs) (next Q (take members now)) ys out n
        (grow_done (length xs) (next Q (take members now)) (flat_map (λ i. choices i Q i) (drop p (take members now))) ys n s.grows
        (ap (flat_map (λ i. choices i Q i)) (drop_of_length-le (take members now) {i = p} (omega (arith, length-take-le members now s.inside))))) o

    pub step_long : length ys ≡ length xs
    step_long = s.grows.long

    pub step_runs : n ≤ length ys → Runs n ys
    step_runs h = s.grows.runs (omega (arith, s.grows.long))

    pub step_next : (out : List ℕ) (r : ℕ) → p < members → n ≤ length ys → Gathered (length ys) (add_all (choices (get_or now p 0) Q (get_or now p 0)) (held n ys)) out r
        → Stepping Q now members xs out r (p + 1)
    unfolding flat_map
    step_next out r h k g =
        let len = length-take-le members now s.inside in
        record {
          inside = s.inside;
          within = omega arith;
          grows = grow_call (length xs) (next Q (take members now)) (choices (get_or now p 0) Q (get_or now p 0)) (flat_map (λ i. choices i Q i) (drop p (take members now)))
              (flat_map (λ i. choices i Q i) (drop (p + 1) (take members now))) ys out n r s.grows
              (ap (flat_map (λ i. choices i Q i)) (drop-cons (take members now) p 0 (omega arith)
              ∙ ap₂ (λ (x : ℕ) (m : ℕ). x ∷ drop m (take members now)) (get_or-take members now p 0 h) (sym (add-one p))))
              (omega (arith, s.grows.long)) g;
        }

pub ruleset stepping = (lacks_start, lacks_hit, lacks_more, lacks_none, via, gives_none, gives_all, no_runs, step_start, step_over, step_done, step_long, step_runs, step_next, rules)
