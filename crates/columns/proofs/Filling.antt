-- A loop that fills three parts of an array, one place of each at a time. Assumes nothing.
use mathlib.Core.Path.{◌≡◌, ◌∙◌}
use mathlib.Core.Logic.{⊎_elim}
use mathlib.Core.List.{List}
use Prim.Native.Nat.{ℕ, ◌+◌, ◌≤◌, ◌<◌}
use native.Mathlib.Omega.{arith}
use lib.ListN.{length, get_or, set, replicate, length-set, length-replicate}
use lib.Seq.{get_or-set_same, get_or-set_other}
use Rattle.sets.proofs.Tests.{same?}

-- The parts have m places each; the second starts at p and the third at q.
module _ (m p q : ℕ) where
  -- they lie in t, one behind the other
  pub record Parts (t : List ℕ) : Type 0 where
    pub second : m ≤ p
    pub third : p + m ≤ q
    pub long : q + m ≤ length t

  -- one word more in each part
  abbrev put : List ℕ → ℕ → ℕ → ℕ → ℕ → List ℕ
  put t i a b c = set (set (set t i a) (p + i) b) (q + i) c

  module _ (t : List ℕ) (i a b c : ℕ) (l : Parts t) (k : i < m) where
    -- what stands elsewhere stays
    others : (j : ℕ) → (j ≡ i → ⊥) → (j ≡ p + i → ⊥) → (j ≡ q + i → ⊥) → get_or (put t i a b c) j 0 ≡ get_or t j 0
    others j x y z = get_or-set_other (set (set t i a) (p + i) b) (q + i) j c 0 z ∙ get_or-set_other (set t i a) (p + i) j b 0 y ∙ get_or-set_other t i j a 0 x

    first_is : get_or (put t i a b c) i 0 ≡ a
    first_is =
        get_or-set_other (set (set t i a) (p + i) b) (q + i) i c 0 (λ e. omega arith) ∙ get_or-set_other (set t i a) (p + i) i b 0 (λ e. omega arith)
        ∙ get_or-set_same t i a 0 (omega arith)

    second_is : get_or (put t i a b c) (p + i) 0 ≡ b
    second_is =
        get_or-set_other (set (set t i a) (p + i) b) (q + i) (p + i) c 0 (λ e. omega arith) ∙ get_or-set_same (set t i a) (p + i) b 0 (omega (arith, length-set t i a))

    third_is : get_or (put t i a b c) (q + i) 0 ≡ c
    third_is = get_or-set_same (set (set t i a) (p + i) b) (q + i) c 0 (omega (arith, length-set (set t i a) (p + i) b, length-set t i a))

    put_parts : Parts (put t i a b c)
    put_parts = record {
      second = l.second;
      third = l.third;
      long = omega (arith, l.long, length-set (set (set t i a) (p + i) b) (q + i) c, length-set (set t i a) (p + i) b, length-set t i a);
    }

  -- R tells whether three words are right for a place.
  module _ (R : ℕ → ℕ → ℕ → ℕ → Type 0) where
    -- the places below i are filled
    pub record Filling (i : ℕ) (t : List ℕ) : Type 0 where
      pub within : i ≤ m
      pub parts : Parts t
      pub right : (j : ℕ) → j < i → R j (get_or t j 0) (get_or t (p + j) 0) (get_or t (q + j) 0)

    pub fill_start : (n : ℕ) → m ≤ p → p + m ≤ q → q + m ≤ n → Filling 0 (replicate n 0)
    fill_start n x y z = record {
      within = omega arith;
      parts = record { second = x; third = y; long = omega (arith, length-replicate {A = ℕ} n 0) };
      right = λ j h. absurd (omega arith);
    }

    pub fill_more : (i : ℕ) (t : List ℕ) {a b c : ℕ} → Filling i t → i < m → R i a b c → Filling (i + 1) (set (set (set t i a) (p + i) b) (q + i) c)
    fill_more i t {a} {b} {c} s k x = record {
      within = omega arith;
      parts = put_parts t i a b c s.parts k;
      right = λ j h. ⊎_elim
          (λ (e : j ≡ i). rw (e, first_is t i a b c s.parts k, second_is t i a b c s.parts k, third_is t i a b c s.parts k) x)
          (λ (d : j ≡ i → ⊥).
          let o = others t i a b c s.parts k in
          let y = o (p + j) (λ e. omega arith) (λ e. d (omega arith)) (λ e. omega arith) in
          rw (o j d (λ e. omega arith) (λ e. omega arith), y, o (q + j) (λ e. omega arith) (λ e. omega arith) (λ e. d (omega arith)))
          (s.right j (omega (arith, d))))
          (same? j i);
    }

    pub fill_done : (i : ℕ) (t : List ℕ) → Filling i t → m ≤ i → (j : ℕ) → j < m → R j (get_or t j 0) (get_or t (p + j) 0) (get_or t (q + j) 0)
    fill_done i t s h j l = s.right j (omega arith)
