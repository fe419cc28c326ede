-- From a stage all of whose members satisfy every clause on, each stage holds the one before: the last is the least set that holds it and is closed under the operator. Assumes nothing.
use Prim.Native.Nat.{ℕ, zero, suc, ◌+◌, ◌-◌, ◌^◌, ◌≤◌, ◌<◌}
use borrow.Author.Rules.{rules}
use lib.ListN.{length, get_or, take, set, length-set, length-take}
use lib.Seq.{length-take-le, take_all, take-suc, take-suc-set}
use mathlib.Core.Bool.{true, false}
use mathlib.Core.List.{List, [], ◌∷◌, ◌++◌}
use mathlib.Core.Logic.{⊎_elim}
use mathlib.Core.Path.{◌≡◌, refl, sym, ap, ◌∙◌, subst}
use native.Mathlib.Decide.{dec_le}
use native.Mathlib.Numerals.{add-one}
use native.Mathlib.Omega.{arith}
use Rattle.sets.specs.Lists.{◌∈◌, Rising, every}
use Rattle.sets.proofs.Lists.{in_flat_map, flat_map_in, every_each}
use Rattle.sets.proofs.Rising.{rising_ext, rising-shorter}
use Rattle.sets.proofs.Tests.{clash}
use Rattle.rising.specs.Growing.{held, Runs, Gathered, Settled}
use Rattle.rising.specs.Slices.{Prefix}
use Rattle.rising.proofs.Growing.{rising-runs, rising_held, held-length, size_small, size_large}
use Rattle.rising.proofs.Slices.{size_fits, size-over}
use Rattle.operator.specs.Operator.{WordRule, choices, next, stage}
use Rattle.minimal.specs.Minimal.{satisfies}
use Rattle.closure.specs.Closure.{Closed, LeastClosed, Closes}
use Rattle.closure.proofs.Gives.{gives-choices, closed-choices, satisfied_stays, choices-small}
use Rattle.stages.proofs.Bridge.{in_next, next_in, stage-rising}
use Rattle.stages.proofs.Run.{rests_at, rests_from, crowded_not, crowded_last}
use Rattle.stages.specs.Run.{resting, ending, final_stage, crowded, Reached, Iterated, Iterating}

-- ---- what the members of a stage give stands in the next

module _ (Q : List WordRule) where
  given_on : (k i x : ℕ) → i ∈ stage Q k → x ∈ choices i Q i → x ∈ stage Q (suc k)
  unfolding stage
  given_on k i x m g = next_in Q (stage Q k) x (in_flat_map (λ j. choices j Q j) i x (stage Q k) m g)

  given_by : (k x : ℕ) → x ∈ stage Q (suc k) → (i : ℕ) × (i ∈ stage Q k) × (x ∈ choices i Q i)
  unfolding stage
  given_by k x m = flat_map_in (λ j. choices j Q j) x (stage Q k) (in_next Q (stage Q k) x m)

  -- the members are words
  pub stage-small : (k x : ℕ) → x ∈ stage Q k → x < 2 ^ 64
  unfolding stage
  stage-small zero x m = ⊎_elim (λ e. omega arith) (λ n. absurd n) m
  stage-small (suc k) x m = let g = given_by k x m in choices-small g.0 Q g.0 x (stage-small k g.0 g.1) g.2

  named : (a b x : ℕ) → a ≡ b → x ∈ stage Q a → x ∈ stage Q b
  named a b x e m = subst (λ (j : ℕ). x ∈ stage Q j) e m

  module _ (k : ℕ) (all : (i : ℕ) → i ∈ stage Q k → satisfies Q i ≡ true) where
    stays : (n m x : ℕ) → m ≡ n + k → x ∈ stage Q m → x ∈ stage Q (suc m)
    stays zero m x e i = given_on m x x i (satisfied_stays x Q (stage-small m x i) (all x (named m k x (omega arith) i)))
    stays (suc n) zero x e i = absurd (omega arith)
    stays (suc n) (suc m) x e i = let g = given_by m x i in given_on (suc m) g.0 x (stays n m g.0 (omega arith) g.1) g.2

    -- a later stage holds an earlier one
    later : (d a b x : ℕ) → k ≤ a → b ≡ d + a → x ∈ stage Q a → x ∈ stage Q b
    later zero a b x h e m = named a b x (omega arith) m
    later (suc d) a zero x h e m = absurd (omega arith)
    later (suc d) a (suc b) x h e m = stays (b - k) b x (omega arith) (later d a b x h (omega arith) m)

    -- the stage that ends the run has what its own members give
    rest_closed : (i x : ℕ) → i ∈ final_stage Q → x ∈ choices i Q i → x ∈ final_stage Q
    unfolding final_stage ending
    rest_closed i x m g = given_on (resting Q) i x (subst (λ (l : List ℕ). i ∈ l) (sym (rests_at Q)) m) g

    within : (L : List ℕ) → ((x : ℕ) → x ∈ stage Q k → x ∈ L) → Closed Q L → (n m x : ℕ) → m ≡ n + k → x ∈ stage Q m → x ∈ L
    within L h c zero m x e i = h x (named m k x (omega arith) i)
    within L h c (suc n) zero x e i = absurd (omega arith)
    within L h c (suc n) (suc m) x e i = let g = given_by m x i in closed-choices Q L c g.0 x (within L h c n m g.0 (omega arith) g.1) g.2

    module _ (room : ℕ) (r : Reached Q room k) where
      pub final_least : LeastClosed Q (stage Q k) (final_stage Q)
      unfolding final_stage ending
      final_least =
          let b = rests_from Q room k r in
          record {
            rises = stage-rising Q (ending Q);
            holds = λ x m. later (ending Q - k) k (ending Q) x (omega arith) (omega arith) m;
            closed = λ i x m g. rest_closed i x m (gives-choices i Q x (stage-small (ending Q) i m) g);
            least = λ L h c x m. within L h c (ending Q - k) (ending Q) x (omega arith) m;
          }

      -- no stage is larger than the last
      final_room : length (final_stage Q) ≤ room → crowded Q room ≡ false
      unfolding final_stage ending
      final_room h = crowded_not Q room (λ i l. go i (dec_le i k) l)
        where
          go : (i : ℕ) → Dec (i ≤ k) → i ≤ ending Q → length (stage Q i) ≤ room
          go i (yes p) l = r.roomy i p
          go i (no n) l =
              let held_by : (x : ℕ) → x ∈ stage Q i → x ∈ stage Q (ending Q) = λ x m. later (ending Q - i) i (ending Q) x (omega (arith, n)) (omega arith) m in
              let s = rising-shorter (stage Q (ending Q)) (stage Q i) (stage-rising Q i) (stage-rising Q (ending Q)) held_by in omega arith

-- ---- the ways in which the run is finished

module _ (Q : List WordRule) (a : List ℕ) (members : ℕ) (b : List ℕ) (k : ℕ) (s : Iterating Q a members b k) where
  rises : Rising (take members a)
  rises = subst Rising (sym s.is) (stage-rising Q k)

  pub finish_runs : Runs members a
  finish_runs = rising-runs members a rises

  module _ (t : every (satisfies Q) (take members a) ≡ true) (out : List ℕ) (n : ℕ) (c : Closes Q (held members a) (length a) out n) where
    all : (i : ℕ) → i ∈ stage Q k → satisfies Q i ≡ true
    all i m = every_each (satisfies Q) (take members a) t i (subst (λ (l : List ℕ). i ∈ l) (sym s.is) m)

    final : LeastClosed Q (held members a) (final_stage Q)
    final = subst (λ (l : List ℕ). LeastClosed Q l (final_stage Q)) (sym (rising_held members a rises ∙ s.is)) (final_least Q k all (length a) s.reached)

    -- two least ones are one
    formed : Gathered (length a) (final_stage Q) out n
    formed = go (dec_le n (length a))
      where
        go : Dec (n ≤ length a) → Gathered (length a) (final_stage Q) out n
        go (yes h) =
            let l = c.least h in
            let e : held n out ≡ final_stage Q = rising_ext (held n out) (final_stage Q) l.rises final.rises
            (l.least (final_stage Q) final.holds final.closed) (final.least (held n out) l.holds l.closed) in
            let m : length (final_stage Q) ≡ n = ap length (sym e) ∙ held-length n out (omega (arith, c.long)) (c.runs h) in
            record { count = sym (size_fits (length a) (final_stage Q) (omega arith) ∙ m); words = λ f. e; runs = λ f. c.runs h; long = c.long }
        go (no f) =
            let o = c.over (omega (arith, f)) (final_stage Q) final.rises final.holds final.closed in
            record {
              count = omega (arith, f, c.most, size-over (length a) (final_stage Q) o);
              words = λ l. absurd (omega arith);
              runs = λ l. absurd (omega arith);
              long = c.long;
            }

    pub finish_over : length out < n → Iterated Q (length a) n out b
    finish_over h =
        let f : length a < length (final_stage Q) = size_large (length a) (final_stage Q) (omega (arith, formed.count, formed.long)) in
        let e = crowded_last Q (length a) f in
        record {
          count = formed.count ∙ size-over (length a) (final_stage Q) f ∙ rw e;
          in_first = λ u. clash (crowded Q (length a)) e u;
          in_second = λ u. clash (crowded Q (length a)) e u;
          fits = λ u. clash (crowded Q (length a)) e u;
          first_length = formed.long;
          second_length = s.long;
        }

    pub finish_runs_on : n ≤ length out → Runs n out
    finish_runs_on h = formed.runs (size_small (length a) (final_stage Q) (omega (arith, formed.count, formed.long)))

    pub finish_within : (x : List ℕ) → n ≤ length out → Settled out n x → n ≤ length x
    finish_within x h o = omega (arith, o.long)

    pub finish_fits : (x : List ℕ) → n ≤ length out → Settled out n x → length (take n x) ≤ length b
    finish_fits x h o = omega (arith, length-take n x, s.long, formed.long)

    pub finish_done : (x y : List ℕ) → n ≤ length out → Settled out n x → length y ≡ length b → Prefix (take n x) y (length (take n x)) → Iterated Q (length a) n x y
    finish_done x y h o l p =
        let f : length (final_stage Q) ≤ length a = size_small (length a) (final_stage Q) (omega (arith, formed.count, formed.long)) in
        let w : take n x ≡ final_stage Q = o.words ∙ formed.words f in
        let e : n ≡ length (take n x) = sym (length-take-le n x (omega (arith, o.long))) in
        let d : crowded Q (length a) ≡ false = final_room Q k all (length a) s.reached f in
        record {
          count = formed.count ∙ size_fits (length a) (final_stage Q) f ∙ rw d;
          in_first = λ u. w;
          in_second = λ u. ap (λ (i : ℕ). take i y) e ∙ p.words ∙ w;
          fits = λ u. omega (arith, formed.count, size_fits (length a) (final_stage Q) f);
          first_length = o.long ∙ formed.long;
          second_length = l ∙ s.long;
        }

-- ---- words copied: the first p stand there

pub record Copying (xs ys zs : List ℕ) (p : ℕ) : Type 0 where
  pub room : length xs ≤ length zs
  pub long : length zs ≡ length ys
  pub within : p ≤ length xs
  pub same : take p zs ≡ take p xs

module _ (xs ys : List ℕ) where
  pub copy_start : length xs ≤ length ys → Copying xs ys ys 0
  copy_start h = record { room = h; long = refl; within = omega arith; same = refl }

  module _ (zs : List ℕ) (p : ℕ) (c : Copying xs ys zs p) where
    pub copy_place : p < length xs → p < length zs
    copy_place h = omega (arith, c.room)

    pub copy_step : p < length xs → Copying xs ys (set zs p (get_or xs p 0)) (p + 1)
    copy_step h = record {
      room = omega (arith, length-set zs p (get_or xs p 0), c.room);
      long = length-set zs p (get_or xs p 0) ∙ c.long;
      within = omega arith;
      same = ap (λ (i : ℕ). take i (set zs p (get_or xs p 0))) (add-one p) ∙ take-suc-set zs p (get_or xs p 0) (omega (arith, c.room))
          ∙ ap (λ (l : List ℕ). l ++ (get_or xs p 0 ∷ [])) c.same ∙ sym (take-suc xs p 0 h) ∙ ap (λ (i : ℕ). take i xs) (sym (add-one p));
    }

    pub copy_done : length xs ≤ p → Prefix xs zs (length xs)
    copy_done h = let e : p ≡ length xs = omega (arith, c.within) in
        record { count = refl; words = ap (λ (i : ℕ). take i zs) (sym e) ∙ c.same ∙ take_all p xs h }

pub ruleset copying = (copy_start, copy_place, copy_step, copy_done, rules)
