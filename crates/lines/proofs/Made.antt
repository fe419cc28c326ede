-- An array that is made by calls of a closure, which answers at each place as a function does. Assumes nothing.
use mathlib.Core.Path.{◌≡◌, sym, ◌∙◌, subst}
use mathlib.Core.List.{List}
use Prim.Native.Nat.{ℕ, zero, suc, ◌+◌, ◌<◌}
use native.Mathlib.Nat.{add-zero, zero-add}
use native.Mathlib.Omega.{arith}
use lib.ListN.{get_or}
use lib.Seq.{ext_get_or}
use denote.Param.Members.{Mut, Called}
use Rattle.std.specs.Array.{IsFromFnResult, IsFromFnResultFrom}
use Rattle.sets.specs.Lists.{tabulate}
use Rattle.sets.proofs.Lists.{length-tabulate, get_d_tabulate}

module _ {F B : Type 0} (g : Mut F (ℕ × Unit {0}) B) (f : F) (h : ℕ → B) (answers : (i : ℕ) (y : B) (q : F) → Called g f (i, tt) y q → (q ≡ f) × (y ≡ h i)) (ys : List B) (d : B) where
  made_at : (n i j : ℕ) → IsFromFnResultFrom g f ys i n → j < n → get_or ys (i + j) d ≡ h (i + j)
  made_at zero i j r l = absurd (omega arith)
  made_at (suc n) i zero (q, y, e, c, r) l = rw add-zero (e.1 d ∙ (answers i y q c).1)
  made_at (suc n) i (suc j) (q, y, e, c, r) l =
      let same : i + 1 + j ≡ i + suc j = omega arith in
      let rest : IsFromFnResultFrom g f ys (i + 1) n = subst (λ (p : F). IsFromFnResultFrom g p ys (i + 1) n) (answers i y q c).0 r in
      subst (λ (t : ℕ). get_or ys t d ≡ h t) same (made_at n (i + 1) j rest (omega arith))

  pub made : (n : ℕ) → IsFromFnResult g f ys n → ys ≡ tabulate h n
  made n m = ext_get_or d ys (tabulate h n) (m.long ∙ sym (length-tabulate h n))
      (λ i l. let k : i < n = omega (arith, m.long) in rw zero-add at (made_at n 0 i m.each k) ∙ sym (get_d_tabulate h n i d k))
