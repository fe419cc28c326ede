-- The word of a list of numbers has just those bits. Assumes nothing.
use mathlib.Core.Path.{◌≡◌, sym, subst}
use mathlib.Core.Bool.{Bool}
use mathlib.Core.Logic.{inl, inr, ⊎_elim}
use mathlib.Core.List.{List, [], ◌∷◌}
use Prim.Native.Nat.{ℕ, ◌^◌, ◌<◌}
use lib.Dec.{T, eqb, eqb→eq, eqb_refl}
use Rattle.sets.specs.Lists.{◌∈◌, sift, below}
use Rattle.sets.specs.Words.{bit, mask}
use Rattle.sets.proofs.Tests.{T_or, T_or_l, T_or_r}
use Rattle.sets.proofs.Lists.{in_sift, out_sift, below_in, in_below}
use Rattle.sets.proofs.Digits.{bit_zero, bit-or, bit_pow, bits_ext, bit-small}

pub mask_out : (l : List ℕ) (i : ℕ) → T (bit (mask l) i) → i ∈ l
unfolding mask
mask_out [] i t = subst T (bit_zero i) t
mask_out (x ∷ l) i t = ⊎_elim (λ p. inl (eqb→eq i x (subst T (bit_pow x i) p))) (λ p. inr (mask_out l i p)) (T_or (bit (2 ^ x) i) (bit (mask l) i) (subst T (bit-or (2 ^ x) (mask l) i) t))

pub mask_in : (l : List ℕ) (i : ℕ) → i ∈ l → T (bit (mask l) i)
unfolding mask
mask_in [] i m = absurd m
mask_in (x ∷ l) i (inl e) = subst T (sym (bit-or (2 ^ x) (mask l) i)) (T_or_l (bit (2 ^ x) i) (bit (mask l) i) (subst T (sym (bit_pow x i)) (subst (λ z. T (eqb i z)) e (eqb_refl i))))
mask_in (x ∷ l) i (inr m) = subst T (sym (bit-or (2 ^ x) (mask l) i)) (T_or_r (bit (2 ^ x) i) (bit (mask l) i) (mask_in l i m))

-- a word below 2 ^ m is that of the numbers below m that pass, where those that pass are its bits
pub mask-sift : (m w : ℕ) (p : ℕ → Bool) → w < 2 ^ m → ((i : ℕ) → i < m → p i ≡ bit w i) → mask (sift p (below m)) ≡ w
mask-sift m w p h e = bits_ext (mask (sift p (below m))) w
    (λ i t. let s = out_sift p (below m) i (mask_out (sift p (below m)) i t) in subst T (e i (in_below m i s.0)) s.1)
    (λ i t. let l = bit-small w m i h t in mask_in (sift p (below m)) i (in_sift p (below m) i (below_in m i l) (subst T (sym (e i l)) t)))
