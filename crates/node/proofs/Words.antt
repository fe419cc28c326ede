-- The test of one clause at a node on words: every undecided bit is put into the word. Assumes nothing.
use mathlib.Core.Path.{◌≡◌, refl, sym, ap, ◌∙◌}
use mathlib.Core.Bool.{Bool, true, false, not, ◌&&◌, and-false}
use Prim.Native.Nat.{ℕ, zero, suc, ◌+◌, ◌-◌, ◌/◌, ◌%◌, ◌^◌, ◌<◌}
use native.Mathlib.Nat.{add-zero, add-suc}
use native.Mathlib.Omega.{arith}
use lib.Dec.{eqb, eqb-suc-zero}
use lib.Bits.{bit_and, and_mod, and_mask, and_zero_r}
use borrow.Author.Tests.{eqb-true, eq-eqb}
use Rattle.sets.specs.Words.{bit, Inside, inside, apart}
use Rattle.sets.proofs.Digits.{bit_div}
use Rattle.program.specs.Clauses.{Clause}
use Rattle.tree.specs.NodeTest.{decided, violated_by, possible}
use Rattle.tree.proofs.Nodes.{and_reach}
use Rattle.leaf.specs.Leaf.{rules_out}

-- ---- a clause is violated where it rules out every word from w to the one with every undecided bit
in_settled : (k w x : ℕ) → w % 2 ^ k ≡ 0 → decided k x && inside x w ≡ inside x w
in_settled k w x z = go (inside x w) refl
  where
    go : (b : Bool) → inside x w ≡ b → decided k x && b ≡ b
    go true e =
        let i : Inside x w = eqb-true _ _ e in
        rw (eq-eqb (x % 2 ^ k) 0 (ap (λ y. y % 2 ^ k) (sym i) ∙ and_mod x w k ∙ rw z (and_zero_r (x % 2 ^ k))))
    go false e = and-false (decided k x)

sum_zero : (a b : ℕ) → eqb (a + b) 0 ≡ eqb b 0 && eqb a 0
sum_zero a zero = rw add-zero
sum_zero a (suc b) = rw (add-suc, eqb-suc-zero (a + b), eqb-suc-zero b)

out_settled : (k w x : ℕ) → w % 2 ^ k ≡ 0 → decided k x && apart x w ≡ apart x (possible k w)
out_settled k w x z = rw (and_reach k x w z) (sym (sum_zero (bit_and x w) (x % 2 ^ k)))

pub violated_test : (k w : ℕ) → w % 2 ^ k ≡ 0 → (c : Clause) → rules_out (possible k w) w (possible k w) c ≡ violated_by k w c
unfolding rules_out violated_by
violated_test k w z c = rw (in_settled k w c.body z, out_settled k w c.naf z, out_settled k w c.head z)

-- ---- a bit, as the code looks at it
pub bit_unset : (w k : ℕ) (b : Bool) → eqb (bit_and (w / 2 ^ k) 1) 0 && b ≡ not (bit w k) && b
bit_unset w k b = ap (λ x. x && b) (go (w / 2 ^ k % 2) (omega arith) (and_mask (w / 2 ^ k) 1) ∙ ap not (sym (bit_div w k)))
  where
    go : (d : ℕ) → d < 2 → bit_and (w / 2 ^ k) 1 ≡ d → eqb (bit_and (w / 2 ^ k) 1) 0 ≡ not (eqb d 1)
    go zero h e = rw e
    go (suc zero) h e = rw e
    go (suc (suc d)) h e = absurd (omega arith)
