-- What `search` prints: the room for it, and that it is the text of the call's answer. Assumes nothing.
use Rattle.std.specs.Prelude.{Ok}
use mathlib.Core.Path.{◌≡◌, refl, sym, ap, ◌∙◌, subst}
use mathlib.Core.Bool.{Bool, true, false, cond}
use mathlib.Core.List.{List, ◌++◌}
use Prim.Native.Nat.{ℕ, ◌≤◌, min}
use native.Mathlib.Omega.{arith}
use lib.Dec.{ltb}
use lib.ListN.{length, take}
use lib.Seq.{length-take-le}
use borrow.Author.Tests.{ltb-false}
use Rattle.lists.specs.Bytes.{Wrote}
use Rattle.program.specs.declared.Refusal.{Refusal}
use Rattle.program.specs.declared.Program.{Program}
use Rattle.program.specs.declared.Outcome.TheVariants as outcome
use Rattle.wording.specs.Printed.{last_line}
use Rattle.listings.specs.Listing.{listing}
use Rattle.tree.specs.Tree.{Node, hits}
use Rattle.tree.specs.Answer.{SearchAnswer, answer, overfull, full_at, run_answer, leaf_of, nodes_of, listed, Searches}
use Rattle.tree.proofs.Runs.{accepted, same-places}
use Rattle.printing.specs.Ready.{Ready, ReadyToList}
use Rattle.printing.specs.Texts.{lent_list}
use Rattle.printing.proofs.Texts.{zeros, cut_zeros}
use Rattle.searching.specs.Texts.{search_text}

-- ---- the search
-- no more words are written than there are places
run_fits : (hit : Node → Bool) (ns : List Node) (A L : ℕ) → (run_answer hit ns A L).written ≤ L
unfolding run_answer overfull
run_fits hit ns A L = go (length (hits hit (take A ns))) (ltb L (length (hits hit (take A ns)))) refl (ltb A (length ns))
  where
    go : (f : ℕ) (b : Bool) → ltb L f ≡ b → (c : Bool)
        → (cond b (answer {R = Refusal} (Ok outcome.Full) L (full_at hit ns L)) (cond c (answer (Ok outcome.Spent) f A) (answer (Ok outcome.Complete) f (length ns)))).written ≤ L
    go f true e c = let q : L ≤ L = omega arith in q
    go f false e true = ltb-false _ _ e
    go f false e false = ltb-false _ _ e

module _ (p : Program) (xs : List ℕ) (q : Ready p xs) (d A : ℕ) (l : List ℕ) (a : SearchAnswer) (ms : List ℕ) (s : Searches p d A l a ms) where
  places : a.written ≤ length l
  places =
      let e = ap (λ (x : SearchAnswer). x.written) (s.says ∙ (accepted p d A l q.accepted).0) in
      omega (arith, run_fits (leaf_of p d) (nodes_of p d) A (length l))

  pub written_here : a.written ≤ length ms
  written_here = omega (arith, places, ap length s.lists ∙ same-places p d A l)

  pub written_long : a.written ≡ length (take a.written ms)
  written_long = sym (length-take-le a.written ms written_here)

  pub written-ready : length l ≤ 4096 → ReadyToList p (take a.written ms) xs
  written-ready h = record { ready = q; short = omega (arith, places, written_long) }

pub search_wrote : (p : Program) (d A : ℕ) (l : List ℕ) (a : SearchAnswer) (ms : List ℕ) → Searches p d A l a ms → (xs : List ℕ) (r : ℕ) (ys : List ℕ)
    → Wrote (listing p (take a.written ms) ++ last_line a.outcome a.written a.visited) xs r ys → Wrote (search_text d A l p) xs r ys
unfolding search_text listed
search_wrote p d A l a ms s xs r ys w = rw (← s.says, ← s.lists) w

-- ---- the lent list
pub search_cut : (d A k r : ℕ) (p : Program) (xs : List ℕ) (m : ℕ) (ys : List ℕ) → r ≡ min k 4096
    → Wrote (search_text d A (take r (zeros 4096)) p) xs m ys → Wrote (search_text d A (lent_list k) p) xs m ys
search_cut d A k r p xs m ys e w = subst (λ (l : List ℕ). Wrote (search_text d A l p) xs m ys) (cut_zeros r k 4096 e) w
