-- Zeros behind a list, and lists without a byte. Assumes nothing.
use mathlib.Core.Path.{◌≡◌, refl, sym, ap, ap₂, ◌∙◌}
use mathlib.Core.Bool.{Bool, true, false, cond, not}
use mathlib.Core.Logic.{⊎_elim}
use mathlib.Core.List.{List, [], ◌∷◌, ◌++◌}
use Prim.Native.Nat.{ℕ, zero, suc, ◌-◌, ◌≤◌}
use native.Mathlib.Omega.{arith}
use lib.Dec.{eqb}
use lib.ListN.{length, get_or, take, drop, replicate, length-append, length-replicate, length-drop, take-append-drop}
use lib.Seq.{length-take-le, drop-append_seam}
use borrow.Author.Tests.{eqb-true}
use Rattle.sets.specs.Lists.{every}
use Rattle.sets.proofs.Tests.{dec, clash, both_true}
use Rattle.sets.proofs.Lists.{every_append}
use Rattle.lists.specs.Bytes.{index, led, join, padded, over}
use Rattle.lists.proofs.Pieces.{Free, AllFree}

-- ---- zeros behind a list
pub padded_long : (k : ℕ) (s : List ℕ) → length s ≤ k → length (padded k s) ≡ k
unfolding padded
padded_long k s h = omega (arith, length-append s (replicate (k - length s) 0), length-replicate {A = ℕ} (k - length s) 0)

-- d in every place, and behind the last
pub filler_at : {A : Type 0} (d : A) (n j : ℕ) → get_or (replicate n d) j d ≡ d
filler_at d zero j = refl
filler_at d (suc n) zero = refl
filler_at d (suc n) (suc j) = filler_at d n j

-- each place of a padded list
pub padded_at : (k : ℕ) (L : List ℕ) (j : ℕ) → get_or (padded k L) j 0 ≡ get_or L j 0
unfolding padded
padded_at k L j = go (k - length L) L j
  where
    go : (m : ℕ) (L : List ℕ) (j : ℕ) → get_or (L ++ replicate m 0) j 0 ≡ get_or L j 0
    go m [] j = filler_at 0 m j
    go m (x ∷ L) zero = refl
    go m (x ∷ L) (suc j) = go m L j

-- written over zeros
pub over-padded : (k : ℕ) (L : List ℕ) → over L (replicate k 0) ≡ padded k L
unfolding padded
over-padded k L = ap (λ (l : List ℕ). L ++ l) (go k (length L))
  where
    go : (a b : ℕ) → drop b (replicate {A = ℕ} a 0) ≡ replicate {A = ℕ} (a - b) 0
    go a zero = let e : a - 0 ≡ a = omega arith in rw e
    go zero (suc b) = let e : 0 - suc b ≡ 0 = omega arith in rw e
    go (suc a) (suc b) = let e : suc a - suc b ≡ a - b = omega arith in rw e (go a b)

pub zeros_are : (xs : List ℕ) → every (eqb 0) xs ≡ true → xs ≡ replicate (length xs) 0
unfolding every
zeros_are [] h = refl
zeros_are (x ∷ xs) h =
    let a = both_true (eqb 0 x) (every (eqb 0) xs) h in
    ap₂ (λ (y : ℕ) (ys : List ℕ). y ∷ ys) (sym (eqb-true 0 x a.0)) (zeros_are xs a.1)

pub zeros_pass : (k : ℕ) → every (eqb 0) (replicate k 0) ≡ true
unfolding every
zeros_pass zero = refl
zeros_pass (suc k) = zeros_pass k

-- a list with zeros from j on is its first j, padded
pub padded_back : (n j : ℕ) (xs : List ℕ) → length xs ≡ n → j ≤ n → every (eqb 0) (drop j xs) ≡ true → padded n (take j xs) ≡ xs
unfolding padded
padded_back n j xs l h z =
    let e : n - length (take j xs) ≡ length (drop j xs) = omega (arith, length-take-le j xs (omega arith), length-drop j xs) in
    ap (λ (k : ℕ). take j xs ++ replicate k 0) e ∙ ap (λ (ys : List ℕ). take j xs ++ ys) (sym (zeros_are (drop j xs) z)) ∙ take-append-drop j xs

pub padded_tail : (k m : ℕ) (L : List ℕ) → length L ≡ m → every (eqb 0) (drop m (padded k L)) ≡ true
unfolding padded
padded_tail k m L e = ap (λ (n : ℕ). every (eqb 0) (drop n (L ++ replicate (k - length L) 0))) (sym e)
    ∙ ap (every (eqb 0)) (drop-append_seam L (replicate (k - length L) 0)) ∙ zeros_pass (k - length L)

-- ---- lists without a byte
module _ (c : ℕ) where
  abbrev pub isnt : ℕ → Bool
  isnt x = not (eqb x c)

  pub free_of : (xs : List ℕ) → every isnt xs ≡ true → Free c xs
  unfolding every index
  free_of [] h = refl
  free_of (x ∷ xs) h =
      let a = both_true (not (eqb x c)) (every isnt xs) h in
      ⊎_elim (λ q. clash (not (eqb x c)) a.0 (rw q)) (λ q. rw q (ap suc (free_of xs a.1))) (dec (eqb x c))

  pub all-free : (ps : List (List ℕ)) → every (every isnt) ps ≡ true → AllFree c ps
  unfolding every AllFree
  all-free [] h = tt
  all-free (p ∷ ps) h = let a = both_true (every isnt p) (every (every isnt) ps) h in (free_of p a.0, all-free ps a.1)

-- the zeros that pad a list without zeros begin where it ends
pub index-padded : (x : List ℕ) (k : ℕ) → Free 0 x → index 0 (x ++ replicate k 0) ≡ length x
unfolding index
index-padded [] zero f = refl
index-padded [] (suc k) f = refl
index-padded (x ∷ xs) k f = go (eqb x 0) f (index-padded xs k)
  where
    go : (b : Bool) → cond b 0 (suc (index 0 xs)) ≡ suc (length xs) → (Free 0 xs → index 0 (xs ++ replicate k 0) ≡ length xs)
        → cond b 0 (suc (index 0 (xs ++ replicate k 0))) ≡ suc (length xs)
    go true f r = absurd (omega arith)
    go false f r = ap suc (r (omega arith))

-- ---- every byte of pieces put together
module _ (p : ℕ → Bool) (c : ℕ) (s : p c ≡ true) where
  every-led : (ps : List (List ℕ)) → every (every p) ps ≡ true → every p (led c ps) ≡ true
  unfolding every led
  every-led [] h = refl
  every-led (x ∷ ps) h =
      let a = both_true (every p x) (every (every p) ps) h in
      rw (s, every_append p x (led c ps) a.0 (every-led ps a.1))

  pub every-join : (ps : List (List ℕ)) → every (every p) ps ≡ true → every p (join c ps) ≡ true
  unfolding every join
  every-join [] h = refl
  every-join (x ∷ ps) h =
      let a = both_true (every p x) (every (every p) ps) h in
      every_append p x (led c ps) a.0 (every-led ps a.1)
