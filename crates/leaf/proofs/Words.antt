-- Tests of several words as one, and the place of a highest bit. Assumes nothing.
use mathlib.Core.Path.{◌≡◌, sym, ◌∙◌, subst}
use mathlib.Core.Bool.{◌&&◌}
use mathlib.Core.Logic.{⊎_elim}
use Prim.Native.Nat.{ℕ, zero, suc, ◌-◌, ◌^◌, ◌<◌}
use native.Mathlib.Omega.{arith}
use lib.Dec.{eqb, eqb-suc-zero}
use lib.Count.{count_leading_zeros}
use lib.Bits.{bit_and, bit_or, and_le_l, and_le_r, or_zero_l, or_add_and}
use borrow.Author.Tests.{eqb-true, eqb-false, eq-eqb, ne_eqb}
use Rattle.sets.specs.Words.{inside, Highest}
use Rattle.sets.proofs.Tests.{dec}
use Rattle.sets.proofs.Highest.{one_shl, highest_is}
use Rattle.program.specs.Clauses.{clause_of}
use Rattle.leaf.specs.Leaf.{rules_out}

-- ---- several words are zero where their union is
pub or_zero : (a b : ℕ) → eqb (bit_or a b) 0 ≡ eqb a 0 && eqb b 0
or_zero zero b = rw (or_zero_l b)
or_zero (suc a) b =
    let d : bit_or (suc a) b ≡ 0 → ⊥ = omega (arith, or_add_and (suc a) b, and_le_r (suc a) b) in
    ne_eqb (bit_or (suc a) b) 0 d ∙ rw (eqb-suc-zero a)

-- what is left of a outside w is zero where a lies in w
pub out_zero : (a w : ℕ) → eqb (a - bit_and a w) 0 ≡ inside a w
out_zero a w = ⊎_elim
    (λ t. let e = eqb-true (bit_and a w) a t in eq-eqb (a - bit_and a w) 0 (omega arith) ∙ sym t)
    (λ f. let d = eqb-false (bit_and a w) a f in ne_eqb (a - bit_and a w) 0 (λ z. d (omega (arith, and_le_l a w))) ∙ sym f)
    (dec (inside a w))

pub ruled_out : (h b n by w reach : ℕ) → eqb (bit_or (bit_or (b - bit_and b w) (bit_and n by)) (bit_and h reach)) 0 ≡ rules_out by w reach (clause_of h b n)
unfolding rules_out
ruled_out h b n by w reach = rw (or_zero (bit_or (b - bit_and b w) (bit_and n by)) (bit_and h reach), or_zero (b - bit_and b w) (bit_and n by), out_zero b w)

-- ---- the place of the highest bit of a word that has one
pub highest_place : (x : ℕ) → 0 < x → x < 2 ^ 32 → Highest x (2 ^ (31 - count_leading_zeros 32 x))
highest_place x some fits = subst (Highest x) (one_shl 32 (31 - count_leading_zeros 32 x) (omega arith)) (highest_is 32 x some fits)
