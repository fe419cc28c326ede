-- The whole program put out, over any layout of clauses: what the clauses from k on become is still to come. Assumes nothing.
use Prim.Native.Nat.{ℕ, ◌+◌, ◌≤◌, ◌<◌}
use lib.ListN.{length}
use mathlib.Core.List.{List, ◌∷◌, ◌++◌}
use mathlib.Core.Logic.{inl, inr}
use mathlib.Core.Path.{◌≡◌, refl, sym, ap, subst}
use native.Mathlib.Omega.{arith}
use Rattle.program.specs.Clauses.{Clause, Below, clause_at}
use Rattle.sets.specs.Lists.{Each, onward, tabulate}
use Rattle.sets.proofs.Lists.{onward_start, onward_step, onward_done}
use Rattle.emission.proofs.Emit.{Emitting, emitting_start, emitting_room, emitting_call, emitting_done}
use Rattle.emission.specs.Emit.{Emits, Places}
use Rattle.rewriting.specs.Rewriting.{Takes, ClausesOver}
use Rattle.transform.specs.Transform.{becomes, stand_ins, kappa_from, all_stand_ins, members}

-- ---- the clauses from k on have still to be put out, their stand-ins from s on

pub record Rewriting (m : ℕ) (f : ℕ → Clause) (count : ℕ) (hs₀ bs₀ : List ℕ) (s n k : ℕ) (hs bs : List ℕ) : Type 0 where
  pub few : m ≤ 32
  pub within : k ≤ count
  pub below : Each (Below m) (onward f count k)
  pub places : s + all_stand_ins (onward f count k) ≤ 64
  pub emits : Emitting (kappa_from m (m + m) (tabulate f count)) (kappa_from m s (onward f count k)) hs₀ bs₀ 0 hs bs n

pub rewriting_start : (m : ℕ) (hs bs ns : List ℕ) (count : ℕ) (hs₀ bs₀ : List ℕ) → ClausesOver m hs bs ns count
    → (members m (tabulate (clause_at hs bs ns) count) ≤ 64) × Places (kappa_from m (m + m) (tabulate (clause_at hs bs ns) count)) hs₀ bs₀ 0
    → Rewriting m (clause_at hs bs ns) count hs₀ bs₀ (m + m) 0 0 hs₀ bs₀
unfolding members
rewriting_start m hs bs ns count hs₀ bs₀ b p =
    let e : tabulate (clause_at hs bs ns) count ≡ onward (clause_at hs bs ns) count 0 = sym (onward_start (clause_at hs bs ns) count) in
    record {
      few = omega (arith, b.literals);
      within = omega arith;
      below = subst (λ (C : List Clause). Each (Below m) C) e b.below;
      places = omega (arith, p.0, ap all_stand_ins e);
      emits = subst (λ (C : List Clause). Emitting (kappa_from m (m + m) (tabulate (clause_at hs bs ns) count)) (kappa_from m (m + m) C) hs₀ bs₀ 0 hs₀ bs₀ 0) e (emitting_start _ hs₀ bs₀ 0 p.1);
    }

module _ (m : ℕ) (f : ℕ → Clause) (count : ℕ) (hs₀ bs₀ : List ℕ) (s n k : ℕ) (hs bs : List ℕ) (w : Rewriting m f count hs₀ bs₀ s n k hs bs) where
  pub rewriting_done : count ≤ k → Emits (kappa_from m (m + m) (tabulate f count)) hs₀ bs₀ 0 hs bs n
  unfolding kappa_from
  rewriting_done h = emitting_done _ _ hs₀ bs₀ 0 hs bs n w.emits (ap (kappa_from m s) (onward_done f count k h))

  pub rewriting_heads : length hs ≡ length hs₀
  rewriting_heads = w.emits.emits.heads

  pub rewriting_bodies : length bs ≡ length bs₀
  rewriting_bodies = w.emits.emits.bodies

  module _ (h : k < count) where
    cut : kappa_from m s (onward f count k) ≡ becomes m s (f k) ++ kappa_from m (s + stand_ins (f k)) (onward f count (k + 1))
    unfolding kappa_from
    cut = ap (kappa_from m s) (onward_step f count k h)

    sum : all_stand_ins (onward f count k) ≡ stand_ins (f k) + all_stand_ins (onward f count (k + 1))
    unfolding all_stand_ins
    sum = ap all_stand_ins (onward_step f count k h)

    under : Each (Below m) (f k ∷ onward f count (k + 1))
    under = subst (λ (C : List Clause). Each (Below m) C) (onward_step f count k h) w.below

    rewriting_takes : Takes m s (f k) hs bs n
    rewriting_takes = record {
      few = w.few;
      below = (under (f k) (inl refl)).nafs;
      places = omega (arith, w.places, sum);
      room = emitting_room _ _ hs₀ bs₀ 0 hs bs n w.emits (becomes m s (f k)) _ cut;
    }

    pub rewriting_step : (r d : ℕ) (hs' bs' : List ℕ) → Emits (becomes m s (f k)) hs bs n hs' bs' r → (d ≡ stand_ins (f k)) × (d ≤ 64) → Rewriting m f count hs₀ bs₀ (s + d) r (k + 1) hs' bs'
    rewriting_step r d hs' bs' g e = record {
      few = w.few;
      within = omega arith;
      below = λ c i. under c (inr i);
      places = omega (arith, w.places, sum, e.0);
      emits = subst (λ j. Emitting (kappa_from m (m + m) (tabulate f count)) (kappa_from m (s + j) (onward f count (k + 1))) hs₀ bs₀ 0 hs' bs' r) (sym e.0)
          (emitting_call _ _ hs₀ bs₀ 0 hs bs n w.emits (becomes m s (f k)) _ hs' bs' r cut g);
    }

pub row_takes : (m : ℕ) (xs ys zs : List ℕ) (count : ℕ) (hs₀ bs₀ : List ℕ) (s n k : ℕ) (hs bs : List ℕ) → Rewriting m (clause_at xs ys zs) count hs₀ bs₀ s n k hs bs
    → k < count → Takes m s (clause_at xs ys zs k) hs bs n
row_takes m xs ys zs count hs₀ bs₀ s n k hs bs w h = rewriting_takes m (clause_at xs ys zs) count hs₀ bs₀ s n k hs bs w h
