-- Laws of pieces: the first and the others, apart and together again. Assumes nothing.
use mathlib.Core.Path.{◌≡◌, refl, sym, ap, ap₂, ◌∙◌}
use mathlib.Core.Bool.{Bool, true, false, cond}
use mathlib.Core.Logic.{⊎_elim}
use mathlib.Core.List.{List, [], ◌∷◌, ◌++◌, append-nil}
use Prim.Native.Nat.{ℕ, suc, ◌+◌, ◌-◌, ◌≤◌, ◌<◌}
use native.Mathlib.Nat.{add-zero}
use native.Mathlib.Numerals.{add-one}
use native.Mathlib.Omega.{arith}
use lib.Dec.{eqb, leb, leb-suc-suc}
use lib.ListN.{length, get_or, take, drop, length-drop}
use lib.Seq.{drop-drop}
use borrow.Author.Tests.{eqb-true, eq-eqb, le-leb, lt-leb, leb-true, leb-false}
use Rattle.sets.proofs.Tests.{dec}
use Rattle.lists.specs.Bytes.{onto, pieces, left, ended, led, join, close, index, end_of, count}

length-onto : (x : ℕ) (ps : List (List ℕ)) → length (onto x ps) ≡ length ps
unfolding onto
length-onto x [] = refl
length-onto x (p ∷ ps) = refl

-- ---- the first piece, and the others
-- the part of a list from a to e
abbrev pub part : List ℕ → ℕ → ℕ → List ℕ
part xs a e = take (e - a) (drop a xs)

module _ (c : ℕ) where
  pub index_le : (xs : List ℕ) → index c xs ≤ length xs
  unfolding index
  index_le [] = omega arith
  index_le (x ∷ xs) = go (eqb x c) (index_le xs)
    where
      go : (b : Bool) → index c xs ≤ length xs → cond b 0 (suc (index c xs)) ≤ suc (length xs)
      go true h = omega arith
      go false h = omega arith

  -- the first piece ends at the first c
  pub pieces_first : (xs : List ℕ) → pieces c xs ≡ take (index c xs) xs ∷ left c xs (index c xs + 1)
  unfolding pieces index left onto
  pieces_first [] = refl
  pieces_first (x ∷ xs) = go (eqb x c) (pieces_first xs)
    where
      shift : left c xs (index c xs + 1) ≡ left c (x ∷ xs) (suc (index c xs) + 1)
      shift = rw (add-one (index c xs), add-one (suc (index c xs)), leb-suc-suc (suc (index c xs)) (length xs))

      go : (b : Bool) → pieces c xs ≡ take (index c xs) xs ∷ left c xs (index c xs + 1)
          → cond b ([] ∷ pieces c xs) (onto x (pieces c xs)) ≡ take (cond b 0 (suc (index c xs))) (x ∷ xs) ∷ left c (x ∷ xs) (cond b 0 (suc (index c xs)) + 1)
      go true h = rw (le-leb 1 (suc (length xs)) (omega arith))
      go false h = ap (onto x) h ∙ ap (λ (l : List (List ℕ)). (x ∷ take (index c xs) xs) ∷ l) shift

  pub left_start : (xs : List ℕ) → left c xs 0 ≡ pieces c xs
  unfolding left
  left_start xs = rw (le-leb 0 (length xs) (omega arith))

  pub left_done : (xs : List ℕ) (at : ℕ) → length xs < at → left c xs at ≡ []
  unfolding left
  left_done xs at h = rw (lt-leb at (length xs) h)

  pub end_ge : (xs : List ℕ) (at : ℕ) → at ≤ end_of c xs at
  unfolding end_of
  end_ge xs at = omega arith

  left_drop : (xs : List ℕ) (at k : ℕ) → at ≤ length xs → left c (drop at xs) k ≡ left c xs (at + k)
  unfolding left
  left_drop xs at k h = ⊎_elim
      (λ e. let f = leb-true k (length (drop at xs)) e in rw (e, le-leb (at + k) (length xs) (omega (arith, length-drop at xs)), drop-drop k at xs))
      (λ e. let f = leb-false k (length (drop at xs)) e in rw (e, lt-leb (at + k) (length xs) (omega (arith, length-drop at xs))))
      (dec (leb k (length (drop at xs))))

  -- from at on: the piece up to the next c, and the pieces behind it
  pub left_step : (xs : List ℕ) (at : ℕ) → at ≤ length xs → left c xs at ≡ part xs at (end_of c xs at) ∷ left c xs (end_of c xs at + 1)
  unfolding end_of
  left_step xs at h =
      let i = index c (drop at xs) in
      let e : at + i - at ≡ i = omega arith in
      let f : at + (i + 1) ≡ at + i + 1 = omega arith in
      let g : left c xs at ≡ pieces c (drop at xs) = sym (left_drop xs at 0 h ∙ ap (left c xs) (add-zero at)) ∙ left_start (drop at xs) in
      g ∙ pieces_first (drop at xs)
      ∙ ap₂ (λ (n : ℕ) (l : List (List ℕ)). take n (drop at xs) ∷ l) (sym e) (left_drop xs at (i + 1) h ∙ ap (left c xs) f)

  -- ---- the pieces that c ends
  ended_first : (xs : List ℕ) → index c xs < length xs → ended c xs ≡ take (index c xs) xs ∷ ended c (drop (index c xs + 1) xs)
  unfolding ended index onto
  ended_first [] h = absurd (omega arith)
  ended_first (x ∷ xs) h = go (eqb x c) (ended_first xs) h
    where
      go : (b : Bool) → (index c xs < length xs → ended c xs ≡ take (index c xs) xs ∷ ended c (drop (index c xs + 1) xs)) → cond b 0 (suc (index c xs)) < suc (length xs)
          → cond b ([] ∷ ended c xs) (onto x (ended c xs)) ≡ take (cond b 0 (suc (index c xs))) (x ∷ xs) ∷ ended c (drop (cond b 0 (suc (index c xs)) + 1) (x ∷ xs))
      go true r h = refl
      go false r h = ap (onto x) (r (omega arith))
          ∙ ap (λ (n : ℕ). (x ∷ take (index c xs) xs) ∷ ended c (drop n (x ∷ xs))) (ap suc (add-one (index c xs)) ∙ sym (add-one (suc (index c xs))))

  ended_none : (xs : List ℕ) → length xs ≤ index c xs → ended c xs ≡ []
  unfolding ended index onto
  ended_none [] h = refl
  ended_none (x ∷ xs) h = go (eqb x c) (ended_none xs) h
    where
      go : (b : Bool) → (length xs ≤ index c xs → ended c xs ≡ []) → suc (length xs) ≤ cond b 0 (suc (index c xs)) → cond b ([] ∷ ended c xs) (onto x (ended c xs)) ≡ []
      go true r h = absurd (omega arith)
      go false r h = ap (onto x) (r (omega arith))

  pub line_step : (xs : List ℕ) (at : ℕ) → end_of c xs at < length xs
      → ended c (drop at xs) ≡ part xs at (end_of c xs at) ∷ ended c (drop (end_of c xs at + 1) xs)
  unfolding end_of
  line_step xs at h =
      let i = index c (drop at xs) in
      let e : at + i - at ≡ i = omega arith in
      let f : at + (i + 1) ≡ at + i + 1 = omega arith in
      ended_first (drop at xs) (omega (arith, length-drop at xs))
      ∙ ap₂ (λ (n : ℕ) (l : List (List ℕ)). take n (drop at xs) ∷ l) (sym e) (ap (ended c) (drop-drop (i + 1) at xs ∙ ap (λ (n : ℕ). drop n xs) f))

  pub line_done : (xs : List ℕ) (at : ℕ) → length xs ≤ end_of c xs at → ended c (drop at xs) ≡ []
  unfolding end_of
  line_done xs at h = ended_none (drop at xs) (omega (arith, length-drop at xs))

  -- ---- apart, and together again
  -- a list without c
  abbrev pub Free : List ℕ → Type 0
  Free xs = index c xs ≡ length xs

  pub join-pieces : (xs : List ℕ) → join c (pieces c xs) ≡ xs
  unfolding pieces join led onto
  join-pieces [] = refl
  join-pieces (x ∷ xs) = go (eqb x c) refl (pieces_first xs) (join-pieces xs)
    where
      go : (b : Bool) → eqb x c ≡ b → pieces c xs ≡ take (index c xs) xs ∷ left c xs (index c xs + 1) → join c (pieces c xs) ≡ xs
          → join c (cond b ([] ∷ pieces c xs) (onto x (pieces c xs))) ≡ x ∷ xs
      go true e f h = ap (led c) f ∙ ap (λ (l : List (List ℕ)). c ∷ join c l) (sym f) ∙ ap₂ (λ (y : ℕ) (l : List ℕ). y ∷ l) (sym (eqb-true x c e)) h
      go false e f h = ap (λ (l : List (List ℕ)). join c (onto x l)) f ∙ ap (λ (l : List (List ℕ)). x ∷ join c l) (sym f) ∙ ap (λ (l : List ℕ). x ∷ l) h

  -- a piece without c in front of a list
  free_tail : (x : ℕ) (p : List ℕ) → Free (x ∷ p) → (eqb x c ≡ false) × Free p
  unfolding index
  free_tail x p f = go (eqb x c) refl f
    where
      go : (b : Bool) → eqb x c ≡ b → cond b 0 (suc (index c p)) ≡ suc (length p) → (eqb x c ≡ false) × Free p
      go true e f = absurd (omega arith)
      go false e f = (e, omega arith)

  -- pieces put together come apart again
  pieces_front : (p : List ℕ) (xs : List ℕ) → Free p → pieces c (p ++ c ∷ xs) ≡ p ∷ pieces c xs
  unfolding pieces onto
  pieces_front [] xs f = rw (eq-eqb c c refl)
  pieces_front (x ∷ p) xs f = let t = free_tail x p f in rw (t.0, pieces_front p xs t.1)

  pieces-free : (p : List ℕ) → Free p → pieces c p ≡ p ∷ []
  unfolding pieces onto
  pieces-free [] f = refl
  pieces-free (x ∷ p) f = let t = free_tail x p f in rw (t.0, pieces-free p t.1)

  unfoldable pub AllFree : List (List ℕ) → Type 0
  AllFree [] = Unit {0}
  AllFree (p ∷ ps) = Free p × AllFree ps

  pub pieces-join : (p : List ℕ) (ps : List (List ℕ)) → AllFree (p ∷ ps) → pieces c (join c (p ∷ ps)) ≡ p ∷ ps
  unfolding join led AllFree
  pieces-join p [] f = ap (pieces c) (append-nil p) ∙ pieces-free p f.0
  pieces-join p (q ∷ qs) f = pieces_front p (q ++ led c qs) f.0 ∙ ap (λ (l : List (List ℕ)). p ∷ l) (pieces-join q qs f.1)

  ended_front : (p : List ℕ) (xs : List ℕ) → Free p → ended c (p ++ c ∷ xs) ≡ p ∷ ended c xs
  unfolding ended onto
  ended_front [] xs f = rw (eq-eqb c c refl)
  ended_front (x ∷ p) xs f = let t = free_tail x p f in rw (t.0, ended_front p xs t.1)

  pub ended-close : (ps : List (List ℕ)) → AllFree ps → ended c (close c ps) ≡ ps
  unfolding ended close AllFree
  ended-close [] f = refl
  ended-close (p ∷ ps) f = ended_front p (close c ps) f.0 ∙ ap (λ (l : List (List ℕ)). p ∷ l) (ended-close ps f.1)

  close-onto : (x y : ℕ) (ys : List ℕ) (ps : List (List ℕ)) → close c ps ≡ y ∷ ys → close c (onto x ps) ≡ x ∷ y ∷ ys
  unfolding close onto
  close-onto x y ys [] h = let z : ◌≡◌ {A = ℕ} 0 1 = ap length h ∙ absurd (omega (arith, ap length h)) in absurd (omega arith)
  close-onto x y ys (p ∷ ps) h = ap (λ (l : List ℕ). x ∷ l) h

  -- a list whose last element is c is made of the pieces that c ends
  pub close-ended : (x : ℕ) (xs : List ℕ) → get_or (x ∷ xs) (length xs) 0 ≡ c → close c (ended c (x ∷ xs)) ≡ x ∷ xs
  unfolding ended close onto
  close-ended x [] h = rw (eq-eqb x c h, h)
  close-ended x (y ∷ ys) h = go (eqb x c) refl (close-ended y ys h)
    where
      go : (b : Bool) → eqb x c ≡ b → close c (ended c (y ∷ ys)) ≡ y ∷ ys
          → close c (cond b ([] ∷ ended c (y ∷ ys)) (onto x (ended c (y ∷ ys)))) ≡ x ∷ y ∷ ys
      go true e r = ap₂ (λ (z : ℕ) (l : List ℕ). z ∷ l) (sym (eqb-true x c e)) r
      go false e r = close-onto x y ys (ended c (y ∷ ys)) r

  -- as many pieces as there are c, and one more where c stands between them
  pub length-ended : (xs : List ℕ) → length (ended c xs) ≡ count c xs
  unfolding ended count onto
  length-ended [] = refl
  length-ended (x ∷ xs) = go (eqb x c) (length-ended xs)
    where
      go : (b : Bool) → length (ended c xs) ≡ count c xs
          → length (cond b ([] ∷ ended c xs) (onto x (ended c xs))) ≡ cond b (suc (count c xs)) (count c xs)
      go true r = ap suc r
      go false r = length-onto x (ended c xs) ∙ r

  pub length-pieces : (xs : List ℕ) → length (pieces c xs) ≡ suc (count c xs)
  unfolding pieces count onto
  length-pieces [] = refl
  length-pieces (x ∷ xs) = go (eqb x c) (length-pieces xs)
    where
      go : (b : Bool) → length (pieces c xs) ≡ suc (count c xs)
          → length (cond b ([] ∷ pieces c xs) (onto x (pieces c xs))) ≡ suc (cond b (suc (count c xs)) (count c xs))
      go true r = ap suc r
      go false r = length-onto x (pieces c xs) ∙ r
