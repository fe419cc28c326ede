-- How a fixpoint ends: refused, full or complete, and what is so of each. Assumes nothing.
use Rattle.program.specs.declared.Refusal.TheVariants.{InvalidProgram, TooManyMembers, TooLittleRoom}
use Rattle.program.specs.declared.Refusal.{Refusal}
use Rattle.std.specs.Prelude.{Ok, Err, Result}
use mathlib.Core.Path.{◌≡◌, refl, sym, ap, ap₂, ◌∙◌}
use mathlib.Core.Bool.{Bool, true, false}
use mathlib.Core.Logic.{◌⊎◌, inl, inr, ⊎_elim}
use mathlib.Core.List.{List, ◌++◌}
use Prim.Native.Nat.{ℕ, suc, ◌≤◌, ◌<◌, min}
use native.Mathlib.Omega.{arith}
use native.Mathlib.Nat.{le_refl}
use lib.Dec.{ltb}
use lib.ListN.{length, take, drop, length-drop, length-append, drop_of_length-le}
use lib.Seq.{take_at, drop_at, take_all, length-take-le}
use borrow.Author.Tests.{ltb-true, ltb-false, lt-ltb, le-leb, lt-leb}
use Rattle.sets.specs.Lists.{below}
use Rattle.sets.proofs.Tests.{clash, lt_or_ge}
use Rattle.sets.proofs.Lists.{some_in, none_each, below_in, in_below}
use Rattle.program.specs.declared.Program.{Program}
use Rattle.program.specs.Valid.{valid}
use Rattle.program.specs.Refusals.{lowest, number, numbered}
use Rattle.operator.specs.Operator.{stage}
use Rattle.stages.specs.Run.{ending, crowded}
use Rattle.program.specs.declared.Outcome.{Outcome}
use Rattle.program.specs.declared.Outcome.TheVariants.{Complete, Full}
use Rattle.parts.specs.Overwriting.{overwrite}
use Rattle.vocabulary.specs.Vocabulary.{vocabulary}
use Rattle.fix_answer.specs.Answer.{FixpointAnswer, transform_of, room_of, found, refusal, listed, refused, answer_of, exit_of}
use Rattle.fix_answer.proofs.Lists.{found_models}
use Rattle.fix_answer.proofs.Ending.{ends_run}
use Rattle.demands.specs.Demand3.{outcome, written, all_models, Crowded, ByFixpoint}
use Rattle.demands.proofs.Outcomes.{full-spent, full-complete, spent-complete, refused_full, refused-spent, refused-complete, one_refusal}

-- ---- the room
module _ (p : Program) (d : ℕ) (room : ℕ) where
  is-crowded : crowded (transform_of p d) room ≡ true → Crowded p d room
  unfolding crowded
  is-crowded e =
      let s = some_in (λ k. ltb room (length (stage (transform_of p d) k))) (below (suc (ending (transform_of p d)))) e in
      let i = in_below (suc (ending (transform_of p d))) s.0 s.1 in
      (s.0, omega arith, ltb-true room (length (stage (transform_of p d) s.0)) s.2)

  not-crowded : crowded (transform_of p d) room ≡ false → Crowded p d room → ⊥
  unfolding crowded
  not-crowded e c = clash (ltb room (length (stage (transform_of p d) c.0))) (lt-ltb room (length (stage (transform_of p d) c.0)) c.2)
      (none_each (λ k. ltb room (length (stage (transform_of p d) k))) (below (suc (ending (transform_of p d)))) e c.0
      (below_in (suc (ending (transform_of p d))) c.0 (let h = c.1 in omega arith)))

-- ---- the list at exit
-- the first n of the words xs stand at the start of the list l, and o is what it holds then
pub record Leaves (n : ℕ) (xs l o : List ℕ) : Type 0 where
  pub here : n ≤ length xs
  pub there : n ≤ length l
  pub is : o ≡ take n xs ++ drop n l

module _ {n : ℕ} {xs l o : List ℕ} (s : Leaves n xs l o) where
  size : length (take n xs) ≡ n
  size = length-take-le n xs s.here

  pub leaves_first : take n o ≡ take n xs
  leaves_first = ap (take n) s.is ∙ take_at (take n xs) (drop n l) n size

  pub leaves_count : length (take n o) ≡ n
  leaves_count = ap length leaves_first ∙ size

  pub leaves_rest : drop n o ≡ drop n l
  leaves_rest = ap (drop n) s.is ∙ drop_at (take n xs) (drop n l) n size

  pub leaves_length : length o ≡ length l
  leaves_length = ap length s.is ∙ length-append (take n xs) (drop n l) ∙ (let a = length-drop n l in let b = s.there in omega (arith, size))

leaves_none : (xs l : List ℕ) → Leaves 0 xs l l
leaves_none xs l = record { here = omega arith; there = omega arith; is = refl }

leaves_some : (xs l : List ℕ) → length l ≤ length xs → Leaves (length l) xs l (overwrite l xs)
unfolding overwrite
leaves_some xs l h = record { here = h; there = le_refl (length l); is = ap (λ (y : List ℕ). take (length l) xs ++ y) (drop_of_length-le l h ∙ sym (drop_of_length-le l (le_refl (length l)))) }

leaves_all : (xs l : List ℕ) → length xs ≤ length l → Leaves (length xs) xs l (overwrite l xs)
unfolding overwrite
leaves_all xs l h = record { here = le_refl (length xs); there = h; is = ap (λ (y : List ℕ). y ++ drop (length xs) l) (take_all (length l) xs h ∙ sym (take_all (length xs) xs (le_refl (length xs)))) }

-- ---- the ways to end
abbrev answer : Result Outcome Refusal → ℕ → FixpointAnswer
answer o n = record { outcome = o; written = n }

data Ended (p : Program) (d : ℕ) (l w v : List ℕ) : Type 0 where
  by_nine : valid p ≡ false → answer_of p d l w v ≡ refused InvalidProgram → exit_of p d l w v ≡ l → Ended p d l w v
  by_eleven : valid p ≡ true → 64 < vocabulary p d → answer_of p d l w v ≡ refused TooManyMembers → exit_of p d l w v ≡ l → Ended p d l w v
  by_twelve : valid p ≡ true → vocabulary p d ≤ 64 → Crowded p d (room_of w v) → answer_of p d l w v ≡ refused TooLittleRoom → exit_of p d l w v ≡ l → Ended p d l w v
  ends-full : valid p ≡ true → vocabulary p d ≤ 64 → (Crowded p d (room_of w v) → ⊥) → length l < length (all_models p d)
      → answer_of p d l w v ≡ answer (Ok Full) (length l) → exit_of p d l w v ≡ overwrite l (all_models p d) → Ended p d l w v
  ends-complete : valid p ≡ true → vocabulary p d ≤ 64 → (Crowded p d (room_of w v) → ⊥) → length (all_models p d) ≤ length l
      → answer_of p d l w v ≡ answer (Ok Complete) (length (all_models p d)) → exit_of p d l w v ≡ overwrite l (all_models p d) → Ended p d l w v

listed-full : (n places : ℕ) → places < n → listed n places ≡ answer (Ok Full) places
unfolding listed
listed-full n places h = let m : min n places ≡ places = omega arith in ap₂ answer (rw (lt-leb n places h)) m

listed-complete : (n places : ℕ) → n ≤ places → listed n places ≡ answer (Ok Complete) n
unfolding listed
listed-complete n places h = let m : min n places ≡ n = omega arith in ap₂ answer (rw (le-leb n places h)) m

ended : (p : Program) (d : ℕ) (l w v : List ℕ) → Ended p d l w v
unfolding answer_of exit_of refusal lowest numbered
ended p d l w v = go (valid p) (ltb 64 (vocabulary p d)) (crowded (transform_of p d) (room_of w v)) refl refl refl
  where
    go : (a x y : Bool) → valid p ≡ a → ltb 64 (vocabulary p d) ≡ x → crowded (transform_of p d) (room_of w v) ≡ y → Ended p d l w v
    go false x y e f g = by_nine e (rw e) (rw e)
    go true true y e f g = by_eleven e (ltb-true 64 (vocabulary p d) f) (rw (e, f)) (rw (e, f))
    go true false true e f g = by_twelve e (ltb-false 64 (vocabulary p d) f) (is-crowded p d (room_of w v) g) (rw (e, f, g)) (rw (e, f, g))
    go true false false e f g = ⊎_elim
        (λ i. ends-full e h c i (says ∙ listed-full (length (all_models p d)) (length l) i) lists)
        (λ i. ends-complete e h c i (says ∙ listed-complete (length (all_models p d)) (length l) i) lists)
        (lt_or_ge (length l) (length (all_models p d)))
      where
        h : vocabulary p d ≤ 64
        h = ltb-false 64 (vocabulary p d) f

        c : Crowded p d (room_of w v) → ⊥
        c = not-crowded p d (room_of w v) g

        all : found p d ≡ all_models p d
        all = found_models p d e h

        says : answer_of p d l w v ≡ listed (length (all_models p d)) (length l)
        says = let q : answer_of p d l w v ≡ listed (length (found p d)) (length l) = rw (e, f, g) in q ∙ ap (λ (xs : List ℕ). listed (length xs) (length l)) all

        lists : exit_of p d l w v ≡ overwrite l (all_models p d)
        lists = let q : exit_of p d l w v ≡ overwrite l (found p d) = rw (e, f, g) in q ∙ ap (overwrite l) all

-- ---- what is so of each way
two_refusals : {A : Type 0} {o : Result Outcome Refusal} {r s : Refusal} → o ≡ Err r → o ≡ Err s → (number r ≡ number s → ⊥) → A
two_refusals a b n = absurd (n (ap number (one_refusal a b)))

module _ (p : Program) (d : ℕ) (l w v : List ℕ) where
  by_way : valid p ≡ true → Ended p d l w v → ByFixpoint p d l w v
  unfolding outcome written refused
  by_way t (by_nine e q x) = clash (valid p) t e
  by_way t (by_eleven e h q x) =
      let o : (answer_of p d l w v).outcome ≡ Err TooManyMembers = ap (λ a. a.outcome) q in
      record {
        ends = ends_run p d t;
        eleven = (λ i. h, λ i. o);
        twelve = (λ i. two_refusals o i (λ z. omega arith), λ i. absurd (omega (arith, i.0)));
        no_other = λ n i. inl (one_refusal i o);
        full = (λ i. refused_full o i, λ i. absurd (omega (arith, i.0)));
        complete = (λ i. refused-complete o i, λ i. absurd (omega (arith, i.0)));
        never_spent = λ i. refused-spent o i;
        writes = λ f. absurd (f TooManyMembers o);
        writes_none = λ n i. ap (λ a. a.written) q;
      }
  by_way t (by_twelve e h c q x) =
      let o : (answer_of p d l w v).outcome ≡ Err TooLittleRoom = ap (λ a. a.outcome) q in
      record {
        ends = ends_run p d t;
        eleven = (λ i. two_refusals o i (λ z. omega arith), λ i. absurd (omega arith));
        twelve = (λ i. (h, c), λ i. o);
        no_other = λ n i. inr (one_refusal i o);
        full = (λ i. refused_full o i, λ i. absurd (i.1 c));
        complete = (λ i. refused-complete o i, λ i. absurd (i.1 c));
        never_spent = λ i. refused-spent o i;
        writes = λ f. absurd (f TooLittleRoom o);
        writes_none = λ n i. ap (λ a. a.written) q;
      }
  by_way t (ends-full e h c m q x) =
      let o : (answer_of p d l w v).outcome ≡ Ok Full = ap (λ a. a.outcome) q in
      record {
        ends = ends_run p d t;
        eleven = (λ i. refused_full i o, λ i. absurd (omega arith));
        twelve = (λ i. refused_full i o, λ i. absurd (c i.1));
        no_other = λ n i. refused_full i o;
        full = (λ i. (h, c, m), λ i. o);
        complete = (λ i. full-complete o i, λ i. absurd (omega (arith, i.2)));
        never_spent = λ i. full-spent o i;
        writes = λ f. ap (λ a. a.written) q ∙ omega arith;
        writes_none = λ n i. refused_full i o;
      }
  by_way t (ends-complete e h c m q x) =
      let o : (answer_of p d l w v).outcome ≡ Ok Complete = ap (λ a. a.outcome) q in
      record {
        ends = ends_run p d t;
        eleven = (λ i. refused-complete i o, λ i. absurd (omega arith));
        twelve = (λ i. refused-complete i o, λ i. absurd (c i.1));
        no_other = λ n i. refused-complete i o;
        full = (λ i. full-complete i o, λ i. absurd (omega (arith, i.2)));
        complete = (λ i. (h, c, m), λ i. o);
        never_spent = λ i. spent-complete i o;
        writes = λ f. ap (λ a. a.written) q ∙ omega arith;
        writes_none = λ n i. refused-complete i o;
      }

  pub by_fixpoint : valid p ≡ true → ByFixpoint p d l w v
  by_fixpoint t = by_way t (ended p d l w v)

  -- the list at exit, of every table
  left_by : Ended p d l w v → Leaves (answer_of p d l w v).written (all_models p d) l (exit_of p d l w v)
  unfolding refused
  left_by (by_nine e q x) = rw (q, x) (leaves_none (all_models p d) l)
  left_by (by_eleven e h q x) = rw (q, x) (leaves_none (all_models p d) l)
  left_by (by_twelve e h c q x) = rw (q, x) (leaves_none (all_models p d) l)
  left_by (ends-full e h c m q x) = rw (q, x) (leaves_some (all_models p d) l (omega arith))
  left_by (ends-complete e h c m q x) = rw (q, x) (leaves_all (all_models p d) l m)

  pub left : Leaves (answer_of p d l w v).written (all_models p d) l (exit_of p d l w v)
  left = left_by (ended p d l w v)

  pub refused-nine : valid p ≡ false → answer_of p d l w v ≡ refused InvalidProgram
  unfolding answer_of refusal lowest numbered
  refused-nine e = rw e
