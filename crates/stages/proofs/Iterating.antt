-- The run to the stage that ends it. Assumes nothing.
use Prim.Native.Nat.{ℕ, suc, ◌+◌, ◌-◌, ◌≤◌, ◌<◌}
use borrow.Author.Rules.{rules}
use lib.Dec.{T}
use lib.ListN.{length, take}
use lib.Seq.{length-take-le}
use mathlib.Core.Bool.{Bool, true, false}
use mathlib.Core.List.{List}
use mathlib.Core.Path.{◌≡◌, refl, sym, ap, ap₂, ◌∙◌, subst}
use native.Mathlib.Numerals.{add-one}
use native.Mathlib.Omega.{arith}
use Rattle.lists.specs.Bytes.{same}
use Rattle.sets.specs.Words.{inside}
use Rattle.rising.proofs.Growing.{size_small, size_large}
use Rattle.stages.proofs.Run.{same_eq, reached_next, reached_less, uncrowded, final_is, crowds}
use Rattle.rising.proofs.Slices.{size_fits, size-over}
use Rattle.rising.specs.Growing.{Grown}
use Rattle.operator.specs.Operator.{WordRule, next, stage}
use Rattle.stages.specs.Run.{latest_rest, Reached, crowded, final_stage, Iterated, Iterating}
use Rattle.rising.specs.Slices.{size}

-- ---- one stage more

module _ (Q : List WordRule) (a : List ℕ) (members : ℕ) (b : List ℕ) (k : ℕ) (s : Iterating Q a members b k) (out : List ℕ) (n : ℕ)
    (g : Grown (length b) (next Q (take members a)) out n) where
  follows : next Q (take members a) ≡ stage Q (suc k)
  unfolding stage
  follows = ap (next Q) s.is

  count : n ≡ size (length a) (stage Q (suc k))
  count = g.count ∙ ap₂ size s.long follows

  fewer : n ≤ length out → (length (stage Q (suc k)) ≤ length a) × (take n out ≡ stage Q (suc k)) × (n ≡ length (stage Q (suc k)))
  fewer h =
      let e : length out ≡ length a = g.long ∙ s.long in
      let f : length (stage Q (suc k)) ≤ length a = size_small (length a) (stage Q (suc k)) (omega (arith, count)) in
      (f, g.words (omega (arith, ap length follows, s.long)) ∙ follows, count ∙ size_fits (length a) (stage Q (suc k)) f)

  pub iterate_over : length out < n → Iterated Q (length a) n a out
  iterate_over h =
      let f : length a < length (stage Q (suc k)) = size_large (length a) (stage Q (suc k)) (omega (arith, count, s.long, g.long)) in
      let c = crowds Q (length a) k s.reached f in
      let no : crowded Q (length a) ≡ false → ⊥ = λ e. (let z : ◌≡◌ {A = ℕ} 0 1 = cc in omega arith) in
      record {
        count = count ∙ size-over (length a) (stage Q (suc k)) f ∙ rw c;
        in_first = λ e. absurd (no e);
        in_second = λ e. absurd (no e);
        fits = λ e. absurd (no e);
        first_length = refl;
        second_length = g.long ∙ s.long;
      }

  pub iterate_rest : (t : Bool) → n ≤ length out → t ≡ same (take members a) (take n out) → t ≡ true → Iterated Q (length a) n a out
  iterate_rest t h e y =
      let f = fewer h in
      let same : same (stage Q k) (stage Q (suc k)) ≡ true = ap₂ same (sym s.is) (sym f.1) ∙ sym e ∙ y in
      let fin : final_stage Q ≡ stage Q (suc k) = final_is Q (length a) k s.reached same in
      let eq : take members a ≡ take n out = same_eq (take members a) (take n out) (subst T (sym (sym e ∙ y)) tt) in
      let m : members ≡ n = sym (length-take-le members a s.inside) ∙ ap length eq ∙ length-take-le n out h in
      record {
        count = f.2 ∙ ap length (sym fin) ∙ rw (uncrowded Q (length a) k s.reached same f.0);
        in_first = λ c. ap (λ (i : ℕ). take i a) (sym m) ∙ eq ∙ f.1 ∙ sym fin;
        in_second = λ c. f.1 ∙ sym fin;
        fits = λ c. omega (arith, f.2, f.0);
        first_length = refl;
        second_length = g.long ∙ s.long;
      }

  pub iterate_on : (t : Bool) → n ≤ length out → t ≡ same (take members a) (take n out) → t ≡ false → Iterating Q out n a (k + 1)
  iterate_on t h e y =
      let f = fewer h in
      let same : same (stage Q k) (stage Q (suc k)) ≡ false = ap₂ same (sym s.is) (sym f.1) ∙ sym e ∙ y in
      record {
        inside = h;
        long = sym (g.long ∙ s.long);
        is = f.1 ∙ ap (stage Q) (sym (add-one k));
        reached = subst (λ (r : ℕ). Reached Q r (k + 1)) (sym (g.long ∙ s.long)) (reached_next Q (length a) k s.reached same f.0);
      }

  pub iterate_less : (t : Bool) (μ : ℕ) → latest_rest - k ≡ μ → n ≤ length out → t ≡ same (take members a) (take n out) → t ≡ false → latest_rest - (k + 1) < μ
  iterate_less t μ u h e y =
      let f = fewer h in
      omega (arith, reached_less Q (length a) k s.reached (ap₂ same (sym s.is) (sym f.1) ∙ sym e ∙ y))

  pub iterate_back : (r : ℕ) (p q : List ℕ) → Iterated Q (length out) r p q → Iterated Q (length a) r q p
  iterate_back r p q d = subst (λ (m : ℕ). Iterated Q m r q p) (g.long ∙ s.long)
      (record { count = d.count; in_first = d.in_second; in_second = d.in_first; fits = d.fits; first_length = d.second_length; second_length = d.first_length })

pub ruleset iterating = (length-take-le, iterate_over, iterate_rest, iterate_on, iterate_less, iterate_back, rules)
