-- The pass that closes a set: what the members below a word give is held. Assumes nothing.
use Prim.Native.Nat.{ℕ, ◌+◌, ◌-◌, ◌^◌, ◌≤◌, ◌<◌}
use borrow.Author.Rules.{rules}
use lib.Bits.{bit_and, bit_or, or_zero_l, or_zero_r}
use lib.Count.{count_trailing_zeros}
use lib.ListN.{length, get_or, take, length-take}
use lib.Seq.{get_or-take}
use mir.Syntax.{w64}
use mir.Val.{Fits}
use mathlib.Core.Bool.{Bool, true, false, not}
use mathlib.Core.List.{List, [], ◌∷◌, map}
use mathlib.Core.Logic.{inl, inr, ⊎_elim}
use mathlib.Core.Path.{◌≡◌, refl, sym, ap, ◌∙◌, subst}
use native.Mathlib.Omega.{arith}
use Rattle.sets.specs.Lists.{◌∈◌, any_of, onward, tabulate}
use Rattle.sets.specs.Words.{inside, put}
use Rattle.sets.proofs.Lists.{in_at, onward_start, onward_step, onward_done}
use Rattle.sets.proofs.Rising.{rising-shorter}
use Rattle.sets.proofs.Tests.{lt_or_ge, via}
use Rattle.sets.proofs.Digits.{or_assoc}
use Rattle.literals.specs.Literals.{literals, low}
use Rattle.literals.proofs.Literals.{literals_low, literals_none, low_less, lowest-small}
use Rattle.rising.specs.RisingSets.{insert_into, add_all}
use Rattle.rising.specs.Growing.{held, Runs, Gathered, From}
use Rattle.rising.proofs.RisingSets.{in_add_all, add_all_in, add_all-rising}
use Rattle.rising.proofs.Slices.{size-over}
use Rattle.rising.proofs.Growing.{Growing, grow_start, grow_call, grow_done, grow_over, size_small, size_large, held-rising}
use Rattle.heads.specs.Heads.{offered_by, without}
use Rattle.operator.specs.Operator.{WordRule, rule_at, fired, choices}
use Rattle.operator.proofs.Operator.{fired-quiet, fired_one}
use Rattle.closure.specs.Closure.{offers, full, stirs, quiet, one_more, gives, Closed, Closes}
use Rattle.closure.proofs.Gives.{gives-quiet, gives_else, gives_above}

-- ---- what is offered: the clauses from k on are still to be looked at

pub record Offering (hs bs : List ℕ) (n i all k : ℕ) : Type 0 where
  pub whole : bit_or all (offers i (onward (rule_at hs bs) n k)) ≡ offers i (tabulate (rule_at hs bs) n)

module _ (hs bs : List ℕ) (n i : ℕ) where
  abbrev from : ℕ → List WordRule
  from k = onward (rule_at hs bs) n k

  pub offer_start : Offering hs bs n i 0 0
  offer_start = record { whole = or_zero_l (offers i (from 0)) ∙ ap (offers i) (onward_start (rule_at hs bs) n) }

  module _ (all k : ℕ) (s : Offering hs bs n i all k) where
    pub offer_fired : k < n → (b : Bool) → b ≡ inside (get_or bs k 0) i → b ≡ true → Offering hs bs n i (bit_or all (get_or hs k 0)) (k + 1)
    unfolding offers offered_by
    offer_fired h b e t = record {
      whole = or_assoc all (get_or hs k 0) (offers i (from (k + 1)))
          ∙ ap (λ (l : List ℕ). bit_or all (offered_by l)) (sym (ap (fired i) (onward_step (rule_at hs bs) n k h) ∙ fired_one i (rule_at hs bs k) (from (k + 1)) (via e t))) ∙ s.whole;
    }

    pub offer_not : k < n → (b : Bool) → b ≡ inside (get_or bs k 0) i → b ≡ false → Offering hs bs n i all (k + 1)
    unfolding offers
    offer_not h b e t = record {
      whole = ap (λ (l : List ℕ). bit_or all (offered_by l)) (sym (ap (fired i) (onward_step (rule_at hs bs) n k h) ∙ fired-quiet i (rule_at hs bs k) (from (k + 1)) (via e t))) ∙ s.whole;
    }

    pub offer_done : n ≤ k → all ≡ offers i (tabulate (rule_at hs bs) n)
    unfolding offers offered_by fired
    offer_done h = sym (ap (λ (Q : List WordRule). bit_or all (offers i Q)) (onward_done (rule_at hs bs) n k h) ∙ or_zero_r all) ∙ s.whole

-- ---- whether a member is quiet

pub quiet_is : (i o : ℕ) (Q : List WordRule) (b : Bool) → o ≡ offers i Q → b ≡ any_of (stirs i (bit_or i o)) Q → not b ≡ quiet i Q
unfolding quiet full
quiet_is i o Q b e h = ap not (h ∙ ap (λ (z : ℕ). any_of (stirs i (bit_or i z)) Q) e)

-- ---- the literals in `left` are still to be put to i

pub record Spreading (i rest : ℕ) (xs : List ℕ) (members : ℕ) (ys : List ℕ) (m left : ℕ) : Type 0 where
  pub small : left < 2 ^ 64
  pub grows : Growing (length xs) (add_all (one_more i rest) (held members xs)) (one_more i left) ys m

module _ (i rest : ℕ) (xs : List ℕ) (members : ℕ) where
  pub spread_start : rest < 2 ^ 64 → members ≤ length xs → Runs members xs → Spreading i rest xs members xs members rest
  spread_start b h r = record { small = b; grows = grow_start xs (one_more i rest) members h r }

  module _ (ys : List ℕ) (m left : ℕ) (s : Spreading i rest xs members ys m left) where
    pub spread_over : length ys < m → Gathered (length xs) (add_all (one_more i rest) (held members xs)) ys m
    spread_over h = grow_over (length xs) (add_all (one_more i rest) (held members xs)) (one_more i left) ys m s.grows (omega (arith, s.grows.long))

    pub spread_done : left ≡ 0 → Gathered (length xs) (add_all (one_more i rest) (held members xs)) ys m
    unfolding one_more
    spread_done e = grow_done (length xs) (add_all (one_more i rest) (held members xs)) (one_more i left) ys m s.grows
        (ap (map (λ t. put t i)) (ap literals e ∙ literals_none))

    pub spread_runs : m ≤ length ys → Runs m ys
    spread_runs h = s.grows.runs (omega (arith, s.grows.long))

    pub spread_long : length ys ≡ length xs
    spread_long = s.grows.long

    pub spread_literal : (t : ℕ) → (left ≡ 0 → ⊥) → t ≡ count_trailing_zeros 64 left → t < 64
    spread_literal t ne e = lowest-small left t ne s.small e

    pub spread_step : (t v r : ℕ) (out : List ℕ) → (left ≡ 0 → ⊥) → m ≤ length ys → t ≡ count_trailing_zeros 64 left → v ≡ put t i
        → Gathered (length ys) (insert_into v (held m ys)) out r → Spreading i rest xs members out r (low left)
    unfolding one_more add_all
    spread_step t v r out ne h e p g = record {
      small = omega (arith, low_less left ne, s.small);
      grows = grow_call (length xs) (add_all (one_more i rest) (held members xs)) (v ∷ []) (one_more i left) (one_more i (low left)) ys out m r s.grows
          (ap (map (λ u. put u i)) (literals_low left ne s.small) ∙ ap (λ (z : ℕ). z ∷ one_more i (low left)) (sym (p ∙ ap (λ (u : ℕ). put u i) e)))
          (omega (arith, s.grows.long)) g;
    }

-- ---- what one member gives

module _ (Q : List WordRule) (i : ℕ) (xs : List ℕ) (members : ℕ) (out : List ℕ) (r : ℕ) where
  pub expand_quiet : (o : ℕ) (b : Bool) → o ≡ offers i Q → b ≡ quiet i Q → b ≡ true
      → Gathered (length xs) (add_all (one_more i (o - bit_and o i)) (held members xs)) out r → Gathered (length xs) (add_all (gives i Q) (held members xs)) out r
  unfolding without
  expand_quiet o b e q t g = subst (λ (l : List ℕ). Gathered (length xs) (add_all l (held members xs)) out r)
      (ap (λ (z : ℕ). one_more i (without z i)) e ∙ sym (gives-quiet i Q (sym q ∙ t))) g

  pub expand_else : (b : Bool) → b ≡ quiet i Q → b ≡ false
      → Gathered (length xs) (add_all (choices i Q i) (held members xs)) out r → Gathered (length xs) (add_all (gives i Q) (held members xs)) out r
  expand_else b q t g = subst (λ (l : List ℕ). Gathered (length xs) (add_all l (held members xs)) out r) (sym (gives_else i Q (sym q ∙ t))) g

-- ---- words of 64 bits

pub next_fits : (i : ℕ) → Fits w64 i → (i ≡ 18446744073709551615 → ⊥) → Fits w64 (i + 1)
next_fits i f ne = record { fits = omega (arith, f.fits, ne) }

held_small : (n : ℕ) (xs : List ℕ) → ((k : ℕ) → Fits w64 (get_or xs k 0)) → (y : ℕ) → y ∈ held n xs → y < 2 ^ 64
unfolding held
held_small n xs f y m = ⊎_elim
    (λ i. let r = in_at (take n xs) 0 y i in
    let e : y ≡ get_or xs r.0 0 = sym r.2 ∙ get_or-take n xs r.0 0 (omega (arith, r.1, length-take n xs)) in
    omega (arith, (f r.0).fits))
    (λ i. absurd i)
    (in_add_all y (take n xs) [] m)

-- ---- the pass: what the members below `from` give is held, and nothing but what every closed set holds

pub record Closing (Q : List WordRule) (S : List ℕ) (room : ℕ) (out : List ℕ) (n from : ℕ) : Type 0 where
  pub long : length out ≡ room
  pub most : n ≤ room
  pub runs : Runs n out
  pub holds : (x : ℕ) → x ∈ S → x ∈ held n out
  pub done : (i x : ℕ) → i ∈ held n out → i < from → x ∈ gives i Q → x ∈ held n out
  pub only : (L : List ℕ) → ((x : ℕ) → x ∈ S → x ∈ L) → Closed Q L → (x : ℕ) → x ∈ held n out → x ∈ L

pub close_start : (Q : List WordRule) (xs : List ℕ) (members : ℕ) → members ≤ length xs → Runs members xs → Closing Q (held members xs) (length xs) xs members 0
close_start Q xs members h r = record {
  long = refl;
  most = h;
  runs = r;
  holds = λ x m. m;
  done = λ i x m l g. absurd (omega arith);
  only = λ L h c x m. h x m;
}

-- every member is below `from`
all_below : (Q : List WordRule) (S : List ℕ) (room : ℕ) (out : List ℕ) (n from : ℕ) → Closing Q S room out n from → ((y : ℕ) → y ∈ held n out → y < from) → Closes Q S room out n
all_below Q S room out n from s f = record {
  most = omega (arith, s.most);
  least = λ h. record { rises = held-rising n out; holds = s.holds; closed = λ i x m g. s.done i x m (f i m) g; least = s.only };
  runs = λ h. s.runs;
  over = λ h. absurd (omega (arith, s.most));
  long = s.long;
}

module _ (Q : List WordRule) (S : List ℕ) (room : ℕ) (out : List ℕ) (n from : ℕ) (s : Closing Q S room out n from) where
  pub close_within : n ≤ length out
  close_within = omega (arith, s.most, s.long)

  pub close_done : (p : ℕ) → From out n from p → p ≡ n → Closes Q S room out n
  close_done p t e = all_below Q S room out n from s (t.none e)

  module _ (p : ℕ) (t : From out n from p) (ne : p ≡ n → ⊥) where
    pub close_place : p < length out
    close_place = omega (arith, t.within, ne, s.most, s.long)

    abbrev i : ℕ
    i = get_or out p 0

    abbrev all : List ℕ
    all = add_all (gives i Q) (held n out)

    before : p < n
    before = omega (arith, t.within, ne)

    all_only : (L : List ℕ) → ((x : ℕ) → x ∈ S → x ∈ L) → Closed Q L → (x : ℕ) → x ∈ all → x ∈ L
    all_only L h c x m = ⊎_elim (λ g. c i x (s.only L h c i (t.member before)) g) (λ k. s.only L h c x k) (in_add_all x (gives i Q) (held n out) m)

    all_done : (j x : ℕ) → j ∈ all → j < i + 1 → x ∈ gives j Q → x ∈ all
    all_done j x m l g = ⊎_elim
        (λ h. new (omega (arith, gives_above i Q j h)))
        (λ h. ⊎_elim (λ b. add_all_in x (gives i Q) (held n out) (inr (s.done j x h b g))) (λ b. new (omega (arith, t.lowest before j h b))) (lt_or_ge j from))
        (in_add_all j (gives i Q) (held n out) m)
      where
        new : j ≡ i → x ∈ all
        new e = add_all_in x (gives i Q) (held n out) (inl (subst (λ (z : ℕ). x ∈ gives z Q) e g))

    -- the next word to start from
    pub close_less : Fits w64 (get_or out p 0) → 18446744073709551616 - (get_or out p 0 + 1) < 18446744073709551616 - from
    close_less f = omega (arith, f.fits, t.above before)

    module _ (ys : List ℕ) (r : ℕ) (g : Gathered (length out) (add_all (gives (get_or out p 0) Q) (held n out)) ys r) where
      pub close_long : length ys ≡ length out
      close_long = g.long

      pub close-over : length ys < r → Closes Q S room ys r
      close-over h =
          let o : length out < length all = size_large (length out) all (omega (arith, g.count, g.long)) in
          record {
            most = omega (arith, g.count, size-over (length out) all o, s.long);
            least = λ l. absurd (omega (arith, g.long, s.long));
            runs = λ l. absurd (omega (arith, g.long, s.long));
            over = λ l L r k c. let m = rising-shorter L all (add_all-rising (gives i Q) (held n out) (held-rising n out)) r (all_only L k c) in omega (arith, s.long);
            long = g.long ∙ s.long;
          }

      pub close_next : r ≤ length ys → Closing Q S room ys r (get_or out p 0 + 1)
      close_next h =
          let f : length all ≤ length out = size_small (length out) all (omega (arith, g.count, g.long)) in
          let e : held r ys ≡ all = g.words f in
          record {
            long = g.long ∙ s.long;
            most = omega (arith, g.long, s.long);
            runs = g.runs f;
            holds = λ x m. subst (λ (l : List ℕ). x ∈ l) (sym e) (add_all_in x (gives i Q) (held n out) (inr (s.holds x m)));
            done = λ j x m l k. subst (λ (a : List ℕ). x ∈ a) (sym e) (all_done j x (subst (λ (a : List ℕ). j ∈ a) e m) l k);
            only = λ L k c x m. all_only L k c x (subst (λ (a : List ℕ). x ∈ a) e m);
          }

      -- it was the greatest word that there is
      pub close_last : r ≤ length ys → get_or out p 0 ≡ 18446744073709551615 → ((k : ℕ) → Fits w64 (get_or ys k 0)) → Closes Q S room ys r
      close_last h e f = all_below Q S room ys r (get_or out p 0 + 1) (close_next h) (λ y m. omega (arith, held_small r ys f y m))

pub ruleset spreading = (spread_start, spread_over, spread_done, spread_runs, spread_long, spread_literal, spread_step, low_less, rules)

pub ruleset closing = (close_start, close_within, close_done, close_place, close_long, close-over, close_next, rules)
