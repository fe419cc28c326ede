-- A loop that steps from member to member of a word by trailing zeros, and looks for one that passes a test. Assumes nothing.
use mathlib.Core.Path.{◌≡◌, refl, sym, ap, ◌∙◌, subst}
use mathlib.Core.Bool.{Bool, true, false}
use mathlib.Core.Logic.{◌⊎◌, inl, inr}
use mathlib.Core.List.{List}
use Prim.Native.Nat.{ℕ, ◌-◌, ◌≤◌, ◌<◌}
use native.Mathlib.Omega.{arith}
use lib.Bits.{bit_and}
use lib.Dec.{T}
use Rattle.sets.specs.Lists.{◌∈◌, any_of, tabulate, Rising}
use Rattle.sets.specs.Words.{◌⊑◌, bit}
use Rattle.sets.proofs.Tests.{dec, clash}
use Rattle.sets.proofs.Lists.{some_in, in_some, in_up_from, up_from_in}
use Rattle.sets.proofs.Digits.{bit-small}
use Rattle.sets.proofs.Branches.{in_both}
use Rattle.literals.specs.Literals.{members, Lowest}
use Rattle.literals.specs.Members.{Taken}
use Rattle.literals.proofs.Literals.{low_less, literals_low, literals_none, lit_in, lit_out, bits_rising}

-- the one at hand is a member
pub lowest_in : (left : ℕ) → (left ≡ 0 → ⊥) → {t : ℕ} → Lowest left t → T (bit left t)
lowest_in left n {t} e = (lit_out left t (subst (λ (l : List ℕ). t ∈ l) (sym (literals_low left n e.fits)) (inl e.place))).1

module _ (p : ℕ → Bool) (s : ℕ) where
  -- a member of s that passes is among those that are left
  pub record Stepping (left : ℕ) : Type 0 where
    pub of_s : bit left ⊑ bit s
    pub rest : any_of p (members left) ≡ any_of p (members s)

  pub step_start : Stepping s
  step_start = record { of_s = λ i t. t; rest = refl }

  module _ (left : ℕ) (u : Stepping left) where
    pub step_member : (left ≡ 0 → ⊥) → {t : ℕ} → Lowest left t → T (bit s t)
    step_member n {t} e = u.of_s t (lowest_in left n e)

    module _ (n : left ≡ 0 → ⊥) {t : ℕ} (e : Lowest left t) {r : Bool} (q : r ≡ p t) where
      pub step_hit : r ≡ true → true ≡ any_of p (members s)
      unfolding any_of
      step_hit h = rw (← e.place, ← q, h) at (sym (ap (any_of p) (literals_low left n e.fits))) ∙ u.rest

      pub step_next : r ≡ false → Stepping (bit_and left (left - 1))
      unfolding any_of
      step_next h = record { of_s = λ i t. u.of_s i (in_both left (left - 1) i t).0; rest = rw (← e.place, ← q, h) at (sym (ap (any_of p) (literals_low left n e.fits))) ∙ u.rest }

    pub step_done : left ≡ 0 → false ≡ any_of p (members s)
    unfolding any_of
    step_done z = sym (ap (λ (x : ℕ). any_of p (members x)) z ∙ ap (any_of p) literals_none) ∙ u.rest

-- ---- a loop over the iterator
module _ (p : ℕ → Bool) (s : ℕ) where
  pub turn_start : (left : ℕ) → left ≡ s → Stepping p s left
  turn_start left e = rw e (step_start p s)

  module _ (left : ℕ) (u : Stepping p s left) where
    module _ {x t : ℕ} (k : Taken left x t) {r : Bool} (q : r ≡ p x) where
      pub turn_hit : r ≡ true → true ≡ any_of p (members s)
      turn_hit h = step_hit p s left u k.some k.lowest q h

      pub turn_next : r ≡ false → Stepping p s t
      turn_next h = rw k.others (step_next p s left u k.some k.lowest q h)

    pub turn_done : left ≡ 0 → false ≡ any_of p (members s)
    turn_done z = step_done p s left u z

-- the others are above it
pub step_others : (left : ℕ) → (left ≡ 0 → ⊥) → {t : ℕ} → Lowest left t → (i : ℕ) → T (bit (bit_and left (left - 1)) i) → t < i
unfolding Rising
step_others left n {t} e i b =
    let l = low_less left n in
    let m = lit_in (bit_and left (left - 1)) i (bit-small (bit_and left (left - 1)) 64 i (omega (arith, e.fits)) b) b in
    rw (← e.place) at ((subst Rising (literals_low left n e.fits) (bits_rising 64 0 left)).0 i m)

-- Asking the members of s is asking all of f 0, .., f (n - 1), where those that pass are members and p and q agree on the members.
module _ {A : Type 0} (f : ℕ → A) (n : ℕ) (p q : A → Bool) (s : ℕ) where
  pub some_asked : n ≤ 64 → ((i : ℕ) → T (bit s i) → (i < n) × (q (f i) ≡ p (f i))) → ((i : ℕ) → i < n → p (f i) ≡ true → T (bit s i))
      → any_of (λ i. q (f i)) (members s) ≡ any_of p (tabulate f n)
  unfolding tabulate
  some_asked few within asked = go (dec (any_of (λ i. q (f i)) (members s))) (dec (any_of p (tabulate f n)))
    where
      up : any_of (λ i. q (f i)) (members s) ≡ true → any_of p (tabulate f n) ≡ true
      up h =
          let m = some_in (λ i. q (f i)) (members s) h in
          let w = within m.0 (lit_out s m.0 m.1).1 in
          in_some p (tabulate f n) (f m.0) (in_up_from f n 0 m.0 (omega arith) (omega (arith, w.0))) (sym w.1 ∙ m.2)

      down : any_of p (tabulate f n) ≡ true → any_of (λ i. q (f i)) (members s) ≡ true
      down h =
          let m = some_in p (tabulate f n) h in
          let i = up_from_in f n 0 m.0 m.1 in
          let l : i.0 < n = omega (arith, i.2) in
          let e : p (f i.0) ≡ true = ap p (sym i.3) ∙ m.2 in
          let t = asked i.0 l e in
          in_some (λ i. q (f i)) (members s) i.0 (lit_in s i.0 (omega arith) t) ((within i.0 t).1 ∙ e)

      go : (any_of (λ i. q (f i)) (members s) ≡ true) ⊎ (any_of (λ i. q (f i)) (members s) ≡ false) → (any_of p (tabulate f n) ≡ true) ⊎ (any_of p (tabulate f n) ≡ false)
          → any_of (λ i. q (f i)) (members s) ≡ any_of p (tabulate f n)
      go (inl a) b = a ∙ sym (up a)
      go (inr a) (inl b) = clash (any_of (λ i. q (f i)) (members s)) (down b) a
      go (inr a) (inr b) = a ∙ sym b
