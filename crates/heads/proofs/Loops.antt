-- Laws of words and of the loops over the heads. Assumes nothing.
use mathlib.Core.Path.{◌≡◌, refl, sym, ap, ap₂, ◌∙◌, subst}
use mathlib.Core.Bool.{Bool, true, false, not, cond}
use mathlib.Core.List.{List, [], ◌∷◌, ◌++◌}
use mathlib.Core.Logic.{inl}
use Prim.Native.Nat.{ℕ, ◌+◌, ◌-◌, ◌*◌, ◌^◌, ◌%◌, ◌≤◌, ◌<◌}
use native.Mathlib.Nat.{one-mul}
use native.Mathlib.Omega.{arith}
use lib.Bits.{bit_and, bit_or, and_le_l, or_zero_l, or_zero_r}
use lib.Count.{count_trailing_zeros}
use lib.Dec.{T, lit<}
use lib.ListN.{length, get_or, set}
use lib.Seq.{get_or-set_same, get_or-set_other}
use lib.Pow.{shl_exact}
use borrow.Author.Tests.{eq-eqb, ne_eqb}
use Rattle.sets.specs.Lists.{◌∈◌, sift, up_from, onward, tabulate}
use Rattle.sets.specs.Words.{bit, meets}
use Rattle.sets.proofs.Lists.{onward_start, onward_step, onward_done, up_from_ext, up_from-add}
use Rattle.sets.proofs.Tests.{T_true}
use Rattle.sets.proofs.Digits.{or_assoc, meets_bits}
use Rattle.literals.proofs.Literals.{literals_low, lit_out}
use Rattle.heads.specs.Heads.{Literal, head_at, offered_by, without}
use Rattle.sets.proofs.Branches.{in_pow}

-- ---- words
pub one_shl : (h : ℕ) → h < 64 → 1 * 2 ^ h % 2 ^ 64 ≡ 2 ^ h
one_shl h l = shl_exact 1 h 64 (lit< tt) (omega arith) ∙ one-mul (2 ^ h)

pub without_is : (a b : ℕ) → a - bit_and a b ≡ without a b
unfolding without
without_is a b = refl

pub part_within : (a b : ℕ) → bit_and a b ≤ a
part_within a b = and_le_l a b

-- the bit at t is set
pub literal_tested : (s t : ℕ) → t < 64 → (bit_and s (1 * 2 ^ t % 2 ^ 64) ≡ 0 → ⊥) → Literal s t
literal_tested s t l n =
    let m = (meets_bits s (2 ^ t)).0 (λ e. n (ap (bit_and s) (one_shl t l) ∙ e)) in
    record { small = l; member = T_true (bit s t) (subst (λ (z : ℕ). T (bit s z)) (in_pow t m.0 m.2) m.1) }

pub literal-lowest : (s t : ℕ) → 0 < s → s < 2 ^ 64 → t ≡ count_trailing_zeros 64 s → Literal s t
literal-lowest s t h b e =
    let m = lit_out s (count_trailing_zeros 64 s) (subst (λ (l : List ℕ). count_trailing_zeros 64 s ∈ l) (sym (literals_low s (λ z. omega arith) b)) (inl refl)) in
    record { small = omega (arith, m.0); member = ap (bit s) e ∙ T_true (bit s (count_trailing_zeros 64 s)) m.1 }

-- ---- the first n heads
module _ (ws : List ℕ) (n : ℕ) where
  -- the first n words alone count
  pub heads_same : (vs : List ℕ) → ((p : ℕ) → p < n → get_or vs p 0 ≡ get_or ws p 0) → tabulate (head_at vs) n ≡ tabulate (head_at ws) n
  unfolding tabulate
  heads_same vs f = up_from_ext (head_at vs) (head_at ws) n 0 (λ p l. f p (omega arith))

  -- a head at the end
  pub heads_more : (h : ℕ) → n < length ws → tabulate (head_at (set ws n h)) (n + 1) ≡ tabulate (head_at ws) n ++ (h ∷ [])
  unfolding tabulate up_from
  heads_more h l =
      let c : 0 + n ≡ n = omega arith in
      up_from-add (head_at (set ws n h)) n 1 0 ∙ ap₂ (λ (x : List ℕ) (y : ℕ). x ++ (y ∷ []))
      (up_from_ext (head_at (set ws n h)) (head_at ws) n 0 (λ p q. get_or-set_other ws n p h 0 (λ e. omega (arith, e))))
      (ap (head_at (set ws n h)) c ∙ get_or-set_same ws n h 0 l)

-- ---- the literals of the heads before k
pub record Joining (ws : List ℕ) (n all k : ℕ) : Type 0 where
  pub whole : bit_or all (offered_by (onward (head_at ws) n k)) ≡ offered_by (tabulate (head_at ws) n)

module _ (ws : List ℕ) (n : ℕ) where
  pub join_start : Joining ws n 0 0
  join_start = record { whole = or_zero_l (offered_by (onward (head_at ws) n 0)) ∙ ap offered_by (onward_start (head_at ws) n) }

  module _ (all k : ℕ) (s : Joining ws n all k) where
    pub join_step : k < n → Joining ws n (bit_or all (get_or ws k 0)) (k + 1)
    unfolding offered_by
    join_step h = record {
      whole = or_assoc all (get_or ws k 0) (offered_by (onward (head_at ws) n (k + 1)))
          ∙ ap (λ (l : List ℕ). bit_or all (offered_by l)) (sym (onward_step (head_at ws) n k h)) ∙ s.whole;
    }

    pub join_done : n ≤ k → all ≡ offered_by (tabulate (head_at ws) n)
    unfolding offered_by
    join_done h = sym (ap (λ (l : List ℕ). bit_or all (offered_by l)) (onward_done (head_at ws) n k h) ∙ or_zero_r all) ∙ s.whole

-- ---- m heads before k meet x
pub record Meeting (ws : List ℕ) (n x m k : ℕ) : Type 0 where
  pub few : m ≤ k
  pub short : n ≤ 64
  pub whole : m + length (sift (meets x) (onward (head_at ws) n k)) ≡ length (sift (meets x) (tabulate (head_at ws) n))

module _ (ws : List ℕ) (n x : ℕ) where
  pub meet_start : n ≤ 64 → Meeting ws n x 0 0
  meet_start h = record { few = omega arith; short = h; whole = omega (arith, ap (λ (l : List ℕ). length (sift (meets x) l)) (onward_start (head_at ws) n)) }

  module _ (m k : ℕ) (s : Meeting ws n x m k) where
    one : k < n → (b : Bool) → meets x (get_or ws k 0) ≡ b
        → m + length (cond b (get_or ws k 0 ∷ sift (meets x) (onward (head_at ws) n (k + 1))) (sift (meets x) (onward (head_at ws) n (k + 1)))) ≡ length (sift (meets x) (tabulate (head_at ws) n))
    unfolding sift
    one h b e = sym (ap (λ (y : Bool). m + length (cond y (get_or ws k 0 ∷ sift (meets x) (onward (head_at ws) n (k + 1))) (sift (meets x) (onward (head_at ws) n (k + 1))))) e)
        ∙ ap (λ (l : List ℕ). m + length (sift (meets x) l)) (sym (onward_step (head_at ws) n k h)) ∙ s.whole

    pub meet_not : k < n → bit_and x (get_or ws k 0) ≡ 0 → Meeting ws n x m (k + 1)
    meet_not h e = record { few = omega (arith, s.few); short = s.short; whole = one h false (ap not (eq-eqb (bit_and x (get_or ws k 0)) 0 e)) }

    pub meet_one : k < n → (bit_and x (get_or ws k 0) ≡ 0 → ⊥) → Meeting ws n x (m + 1) (k + 1)
    meet_one h e = record { few = omega (arith, s.few); short = s.short; whole = omega (arith, one h true (ap not (ne_eqb (bit_and x (get_or ws k 0)) 0 e))) }

    pub meet_done : n ≤ k → m ≡ length (sift (meets x) (tabulate (head_at ws) n))
    unfolding sift
    meet_done h = omega (arith, ap (λ (l : List ℕ). length (sift (meets x) l)) (onward_done (head_at ws) n k h), s.whole)
