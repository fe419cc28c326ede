-- What `fixpoint` prints: the room for it, and that it is the text of the call's answer. Assumes nothing.
use Rattle.program.specs.Refusals.{refusal_of}
use Rattle.std.specs.Prelude.{Result, Ok, Err}
use mathlib.Core.Path.{◌≡◌, refl, sym, ap, ◌∙◌, subst}
use mathlib.Core.Bool.{Bool, true, false, cond}
use mathlib.Core.List.{List, [], ◌∷◌, ◌++◌}
use Prim.Native.Nat.{ℕ, ◌^◌, ◌≤◌, ◌<◌, min}
use native.Mathlib.Omega.{arith}
use lib.Dec.{eqb}
use lib.ListN.{length, take, drop, length-append, length-take, length-drop}
use lib.Seq.{length-take-le}
use Rattle.lists.specs.Bytes.{Wrote}
use Rattle.program.specs.declared.Program.{Program}
use Rattle.program.specs.declared.Outcome.{Outcome}
use Rattle.wording.specs.Printed.{outcome_word, numbered, refused_line}
use Rattle.wording.proofs.Bounds.{numbered-most, outcome-most}
use Rattle.listings.specs.Listing.{listing}
use Rattle.parts.specs.Overwriting.{overwrite}
use Rattle.fix_answer.specs.Answer as fixed
use Rattle.fix_answer.specs.Answer.{FixpointAnswer, Fixes, room_of}
use Rattle.printing.specs.Ready.{ReadyToList}
use Rattle.printing.specs.Texts.{lent_list}
use Rattle.printing.proofs.Texts.{zeros, cut_zeros}
use Rattle.say_fixed.specs.Texts.{by_number, unless_ended, work_slice, fixed_text, fixpoint_text}

-- ---- the line of the outcome
pub ended-most : {R : Type 0} (o : Result Outcome R) (m : ℕ) → m < 2 ^ 64 → length (numbered (outcome_word o) m) ≤ 64
ended-most o m h = omega (arith, numbered-most (outcome_word o) m h, outcome-most o)

-- ---- lists of zeros, cut
pub fixpoint_cut : (d k j r q : ℕ) (p : Program) (xs : List ℕ) (m : ℕ) (ys : List ℕ) → r ≡ min k 4096 → q ≡ min j 65536
    → Wrote (fixpoint_text d (take r (zeros 4096)) (take q (zeros 65536)) (take q (zeros 65536)) p) xs m ys → Wrote (fixpoint_text d (lent_list k) (work_slice j) (work_slice j) p) xs m ys
fixpoint_cut d k j r q p xs m ys e f w =
    subst (λ (l : List ℕ). Wrote (fixpoint_text d l (work_slice j) (work_slice j) p) xs m ys) (cut_zeros r k 4096 e)
    (subst (λ (l : List ℕ). Wrote (fixpoint_text d (take r (zeros 4096)) l l p) xs m ys) (cut_zeros q j 65536 f) w)

-- ---- a refusal, or the models and the line of the outcome
module _ (p : Program) (ws : List ℕ) (o : Result Outcome ℕ) (m : ℕ) (xs : List ℕ) (r : ℕ) (ys : List ℕ) where
  pub fixed_refused_lem : (q : ℕ) → o ≡ Err q → Wrote (refused_line q) xs r ys → Wrote (fixed_text p ws o m) xs r ys
  unfolding fixed_text unless_ended
  fixed_refused_lem q e h = rw e h

  pub fixed-ended : (u : Outcome) → o ≡ Ok u → Wrote (listing p ws ++ numbered (outcome_word o) m) xs r ys → Wrote (fixed_text p ws o m) xs r ys
  unfolding fixed_text unless_ended
  fixed-ended u e h = rw e (rw e at h)

-- ---- the lent slices
overwritten_long : (l ws : List ℕ) → length (overwrite l ws) ≡ length l
unfolding overwrite
overwritten_long l ws = length-append (take (length l) ws) (drop (length ws) l) ∙ omega (arith, length-take (length l) ws, length-drop (length ws) l)

module _ (p : Program) (d : ℕ) (l w v : List ℕ) (a : FixpointAnswer) (ms w' v' : List ℕ) (s : Fixes p d l w v a ms w' v') where
  fixed-places : a.written ≤ length l
  unfolding fixed.answer_of fixed.listed fixed.refused
  fixed-places = rw s.says (go (eqb (fixed.refusal p d (room_of w v)) 0))
    where
      go : (b : Bool) → (cond b (fixed.listed (length (fixed.found p d)) (length l)) (fixed.refused (refusal_of (fixed.refusal p d (room_of w v))))).written ≤ length l
      go true = let q : min (length (fixed.found p d)) (length l) ≤ length l = omega arith in q
      go false = let q : 0 ≤ length l = omega arith in q

  same_long : length ms ≡ length l
  unfolding fixed.exit_of
  same_long = ap length s.lists ∙ go (eqb (fixed.refusal p d (room_of w v)) 0)
    where
      go : (b : Bool) → length (cond b (overwrite l (fixed.found p d)) l) ≡ length l
      go true = overwritten_long l (fixed.found p d)
      go false = refl

  pub fixed_here : a.written ≤ length ms
  fixed_here = omega (arith, fixed-places, same_long)

  pub fixed_long : a.written ≡ length (take a.written ms)
  fixed_long = sym (length-take-le a.written ms fixed_here)

  pub fixed-ready : (xs : List ℕ) → ReadyToList p l xs → ReadyToList p (take a.written ms) xs
  fixed-ready xs q = let h = q.short in record { ready = q.ready; short = omega (arith, fixed-places, fixed_long) }

  pub fixpoint_wrote : (o : Result Outcome ℕ) → o ≡ by_number a.outcome → (xs : List ℕ) (r : ℕ) (ys : List ℕ) → Wrote (fixed_text p (take a.written ms) o a.written) xs r ys → Wrote (fixpoint_text d l w v p) xs r ys
  unfolding fixpoint_text
  fixpoint_wrote o e xs r ys h = rw (← s.says, ← s.lists, ← e) h
