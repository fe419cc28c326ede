-- What the library answers of `any` over a list. Assumes nothing.
use Prim.Native.Nat.{ℕ, ◌<◌}
use lib.ListN.{length}
use mathlib.Core.Bool.{Bool, true, false}
use mathlib.Core.List.{List}
use mathlib.Core.Path.{◌≡◌, sym, ap, ◌∙◌}
use native.Mathlib.Omega.{arith}
use Rattle.std.specs.Bool.{MatchBool}
use Rattle.std.specs.List.{AllWithin, HoldsAt}
use Rattle.sets.specs.Lists.{any_of}
use Rattle.sets.proofs.Lists.{at_in, in_at, in_some, some_none}

pub any_is : (p : ℕ → Bool) (l : List ℕ) (r : Bool) → MatchBool r ((k : ℕ) × (k < length l) × HoldsAt (λ x. p x ≡ true) l k) (AllWithin (λ x. p x ≡ false) l 0 (length l)) → r ≡ any_of p l
any_is p l true (k, h, y) = sym (in_some p l _ (at_in l 0 k h) (y 0))
any_is p l false m = sym (some_none p l (λ x i. let s = in_at l 0 x i in ap p (sym s.2) ∙ m s.0 0 (omega arith) s.1))
