-- Finite sets of numbers as strictly rising lists: insertion, and a list of numbers put in one after the other. Assumes nothing.
use Prim.Native.Nat.{ℕ, zero, suc, ◌+◌, ◌≤◌, ◌<◌}
use borrow.Author.Tests.{lt-ltb, le-ltb, eq-eqb, ne_eqb}
use lib.ListN.{length, get_or, take, drop}
use mathlib.Core.List.{List, [], ◌∷◌, ◌++◌}
use mathlib.Core.Logic.{◌⊎◌, inl, inr, ⊎_elim}
use mathlib.Core.Path.{◌≡◌, refl, sym, ap, ◌∙◌, subst}
use native.Mathlib.Decide.{dec_lt}
use native.Mathlib.Nat.{le_trans, le_refl, lt_trans}
use native.Mathlib.Omega.{arith}
use Rattle.sets.specs.Lists.{Rising, ◌∈◌}
use Rattle.sets.proofs.Lists.{at_in}
use Rattle.sets.proofs.Rising.{rising_ext}
use Rattle.rising.specs.RisingSets.{insert_into, add_all, rank}

-- ---- one step of each

pub order : (x y : ℕ) → (x < y) ⊎ ((x ≡ y) ⊎ (y < x))
order x y = go (dec_lt x y) (dec_lt y x)
  where
    go : Dec (x < y) → Dec (y < x) → (x < y) ⊎ ((x ≡ y) ⊎ (y < x))
    go (yes p) d = inl p
    go (no n) (yes q) = inr (inr q)
    go (no n) (no m) = inr (inl (omega (arith, n, m)))

pub insert_lt : (x y : ℕ) (l : List ℕ) → x < y → insert_into x (y ∷ l) ≡ x ∷ y ∷ l
unfolding insert_into
insert_lt x y l h = rw (lt-ltb x y h)

insert_eq : (x y : ℕ) (l : List ℕ) → x ≡ y → insert_into x (y ∷ l) ≡ y ∷ l
unfolding insert_into
insert_eq x y l h = rw (le-ltb x y (omega arith), eq-eqb x y h)

pub insert_gt : (x y : ℕ) (l : List ℕ) → y < x → insert_into x (y ∷ l) ≡ y ∷ insert_into x l
unfolding insert_into
insert_gt x y l h = rw (le-ltb x y (omega arith), ne_eqb x y (λ e. omega arith))

pub rank_lt : (x y : ℕ) (l : List ℕ) → y < x → rank x (y ∷ l) ≡ suc (rank x l)
unfolding rank
rank_lt x y l h = rw (lt-ltb y x h)

pub rank_ge : (x y : ℕ) (l : List ℕ) → x ≤ y → rank x (y ∷ l) ≡ 0
unfolding rank
rank_ge x y l h = rw (le-ltb y x h)

-- ---- insertion as a set

pub in_insert : (x z : ℕ) (l : List ℕ) → z ∈ insert_into x l → (z ≡ x) ⊎ (z ∈ l)
unfolding insert_into
in_insert x z [] (inl e) = inl e
in_insert x z [] (inr m) = absurd m
in_insert x z (y ∷ l) m = go (order x y) (in_insert x z l)
  where
    go : (x < y) ⊎ ((x ≡ y) ⊎ (y < x)) → (z ∈ insert_into x l → (z ≡ x) ⊎ (z ∈ l)) → (z ≡ x) ⊎ ((z ≡ y) ⊎ (z ∈ l))
    go (inl h) ih = subst (λ (k : List ℕ). z ∈ k) (insert_lt x y l h) m
    go (inr (inl h)) ih = inr (subst (λ (k : List ℕ). z ∈ k) (insert_eq x y l h) m)
    go (inr (inr h)) ih = ⊎_elim (λ e. inr (inl e)) (λ i. ⊎_elim (λ e. inl e) (λ j. inr (inr j)) (ih i)) (subst (λ (k : List ℕ). z ∈ k) (insert_gt x y l h) m)

pub insert_in : (x z : ℕ) (l : List ℕ) → (z ≡ x) ⊎ (z ∈ l) → z ∈ insert_into x l
unfolding insert_into
insert_in x z [] (inl e) = inl e
insert_in x z [] (inr m) = absurd m
insert_in x z (y ∷ l) m = go (order x y) m (insert_in x z l)
  where
    go : (x < y) ⊎ ((x ≡ y) ⊎ (y < x)) → (z ≡ x) ⊎ ((z ≡ y) ⊎ (z ∈ l)) → ((z ≡ x) ⊎ (z ∈ l) → z ∈ insert_into x l) → z ∈ insert_into x (y ∷ l)
    go (inl h) s ih = subst (λ (k : List ℕ). z ∈ k) (sym (insert_lt x y l h)) s
    go (inr (inl h)) s ih = subst (λ (k : List ℕ). z ∈ k) (sym (insert_eq x y l h)) (⊎_elim (λ e. inl (e ∙ h)) (λ i. i) s)
    go (inr (inr h)) s ih = subst (λ (k : List ℕ). z ∈ k) (sym (insert_gt x y l h)) (⊎_elim (λ e. inr (ih (inl e))) (λ i. ⊎_elim (λ e. inl e) (λ j. inr (ih (inr j))) i) s)

pub insert_rising : (x : ℕ) (l : List ℕ) → Rising l → Rising (insert_into x l)
unfolding insert_into Rising
insert_rising x [] r = (λ y m. absurd m, tt)
insert_rising x (y ∷ l) r = go (order x y) (insert_rising x l r.1)
  where
    go : (x < y) ⊎ ((x ≡ y) ⊎ (y < x)) → Rising (insert_into x l) → Rising (insert_into x (y ∷ l))
    go (inl h) ih = subst Rising (sym (insert_lt x y l h)) ((λ z m. ⊎_elim (λ e. omega arith) (λ i. lt_trans h (r.0 z i)) m), r)
    go (inr (inl h)) ih = subst Rising (sym (insert_eq x y l h)) r
    go (inr (inr h)) ih = subst Rising (sym (insert_gt x y l h)) ((λ z m. ⊎_elim (λ e. omega arith) (λ i. r.0 z i) (in_insert x z l m)), ih)

pub insert_most : (x : ℕ) (l : List ℕ) → length (insert_into x l) ≤ length l + 1
unfolding insert_into
insert_most x [] = omega arith
insert_most x (y ∷ l) = go (order x y) (insert_most x l)
  where
    go : (x < y) ⊎ ((x ≡ y) ⊎ (y < x)) → length (insert_into x l) ≤ length l + 1 → length (insert_into x (y ∷ l)) ≤ length (y ∷ l) + 1
    go (inl h) ih = omega (arith, ap length (insert_lt x y l h))
    go (inr (inl h)) ih = omega (arith, ap length (insert_eq x y l h))
    go (inr (inr h)) ih = omega (arith, ap length (insert_gt x y l h))

pub insert_longer : (x : ℕ) (l : List ℕ) → length l ≤ length (insert_into x l)
unfolding insert_into
insert_longer x [] = omega arith
insert_longer x (y ∷ l) = go (order x y) (insert_longer x l)
  where
    go : (x < y) ⊎ ((x ≡ y) ⊎ (y < x)) → length l ≤ length (insert_into x l) → length (y ∷ l) ≤ length (insert_into x (y ∷ l))
    go (inl h) ih = omega (arith, ap length (insert_lt x y l h))
    go (inr (inl h)) ih = omega (arith, ap length (insert_eq x y l h))
    go (inr (inr h)) ih = omega (arith, ap length (insert_gt x y l h))

-- ---- many insertions

pub add_all_++ : (a b l : List ℕ) → add_all (a ++ b) l ≡ add_all b (add_all a l)
unfolding add_all
add_all_++ [] b l = refl
add_all_++ (x ∷ a) b l = add_all_++ a b (insert_into x l)

pub in_add_all : (z : ℕ) (xs l : List ℕ) → z ∈ add_all xs l → (z ∈ xs) ⊎ (z ∈ l)
unfolding add_all
in_add_all z [] l m = inr m
in_add_all z (x ∷ xs) l m = ⊎_elim (λ i. inl (inr i)) (λ i. ⊎_elim (λ e. inl (inl e)) (λ j. inr j) (in_insert x z l i)) (in_add_all z xs (insert_into x l) m)

pub add_all_in : (z : ℕ) (xs l : List ℕ) → (z ∈ xs) ⊎ (z ∈ l) → z ∈ add_all xs l
unfolding add_all
add_all_in z [] l (inl m) = absurd m
add_all_in z [] l (inr m) = m
add_all_in z (x ∷ xs) l (inl (inl e)) = add_all_in z xs (insert_into x l) (inr (insert_in x z l (inl e)))
add_all_in z (x ∷ xs) l (inl (inr m)) = add_all_in z xs (insert_into x l) (inl m)
add_all_in z (x ∷ xs) l (inr m) = add_all_in z xs (insert_into x l) (inr (insert_in x z l (inr m)))

pub add_all-rising : (xs l : List ℕ) → Rising l → Rising (add_all xs l)
unfolding add_all
add_all-rising [] l r = r
add_all-rising (x ∷ xs) l r = add_all-rising xs (insert_into x l) (insert_rising x l r)

pub add_all-longer : (xs l : List ℕ) → length l ≤ length (add_all xs l)
unfolding add_all
add_all-longer [] l = le_refl (length l)
add_all-longer (x ∷ xs) l = le_trans (insert_longer x l) (add_all-longer xs (insert_into x l))

-- what is put in counts as a set
pub add_all_same : (a b l : List ℕ) → Rising l → ((z : ℕ) → z ∈ a → z ∈ b) → ((z : ℕ) → z ∈ b → z ∈ a) → add_all a l ≡ add_all b l
add_all_same a b l r f g = rising_ext (add_all a l) (add_all b l) (add_all-rising a l r) (add_all-rising b l r)
    (λ z m. add_all_in z b l (⊎_elim (λ i. inl (f z i)) (λ i. inr i) (in_add_all z a l m)))
    (λ z m. add_all_in z a l (⊎_elim (λ i. inl (g z i)) (λ i. inr i) (in_add_all z b l m)))

-- ---- the place of an insertion

pub rank_within : (x : ℕ) (l : List ℕ) → rank x l ≤ length l
unfolding rank
rank_within x [] = omega arith
rank_within x (y ∷ l) = go (dec_lt y x) (rank_within x l)
  where
    go : Dec (y < x) → rank x l ≤ length l → rank x (y ∷ l) ≤ length (y ∷ l)
    go (yes h) ih = omega (arith, rank_lt x y l h)
    go (no n) ih = omega (arith, rank_ge x y l (omega (arith, n)))

-- a member at i that is not below x: x belongs at i or before
pub rank_low : (x : ℕ) (l : List ℕ) (i : ℕ) → i < length l → x ≤ get_or l i 0 → rank x l ≤ i
unfolding rank
rank_low x [] i h k = omega arith
rank_low x (y ∷ l) zero h k = omega (arith, rank_ge x y l k)
rank_low x (y ∷ l) (suc i) h k = go (dec_lt y x) (rank_low x l i (omega arith) k)
  where
    go : Dec (y < x) → rank x l ≤ i → rank x (y ∷ l) ≤ suc i
    go (yes h) ih = omega (arith, rank_lt x y l h)
    go (no n) ih = omega (arith, rank_ge x y l (omega (arith, n)))

-- a member at i that is below x: x belongs behind it
pub rank_high : (x : ℕ) (l : List ℕ) (i : ℕ) → Rising l → i < length l → get_or l i 0 < x → i + 1 ≤ rank x l
unfolding Rising
rank_high x [] i r h k = absurd (omega arith)
rank_high x (y ∷ l) zero r h k = omega (arith, rank_lt x y l k)
rank_high x (y ∷ l) (suc i) r h k =
    let ih = rank_high x l i r.1 (omega arith) k in
    let b : y < x = lt_trans (r.0 (get_or l i 0) (at_in l 0 i (omega arith))) k in
    omega (arith, rank_lt x y l b)

-- x stands at its rank already
pub insert_present : (x : ℕ) (l : List ℕ) → rank x l < length l → get_or l (rank x l) 0 ≡ x → insert_into x l ≡ l
unfolding insert_into
insert_present x [] h e = absurd (omega arith)
insert_present x (y ∷ l) h e = go (order x y) (insert_present x l)
  where
    go : (x < y) ⊎ ((x ≡ y) ⊎ (y < x)) → (rank x l < length l → get_or l (rank x l) 0 ≡ x → insert_into x l ≡ l) → insert_into x (y ∷ l) ≡ y ∷ l
    go (inl k) ih = let q : rank x (y ∷ l) ≡ 0 = rank_ge x y l (omega arith) in absurd (let z : y ≡ x = rw q at e in omega arith)
    go (inr (inl k)) ih = insert_eq x y l k
    go (inr (inr k)) ih = let q = rank_lt x y l k in insert_gt x y l k ∙ ap (λ (t : List ℕ). y ∷ t) (ih (omega arith) (rw q at e))

-- or is put in there
pub insert_absent : (x : ℕ) (l : List ℕ) → (rank x l < length l → get_or l (rank x l) 0 ≡ x → ⊥) → insert_into x l ≡ take (rank x l) l ++ (x ∷ drop (rank x l) l)
unfolding insert_into rank
insert_absent x [] n = refl
insert_absent x (y ∷ l) n = go (order x y) (insert_absent x l)
  where
    go : (x < y) ⊎ ((x ≡ y) ⊎ (y < x)) → ((rank x l < length l → get_or l (rank x l) 0 ≡ x → ⊥) → insert_into x l ≡ take (rank x l) l ++ (x ∷ drop (rank x l) l))
        → insert_into x (y ∷ l) ≡ take (rank x (y ∷ l)) (y ∷ l) ++ (x ∷ drop (rank x (y ∷ l)) (y ∷ l))
    go (inl k) ih = rw (insert_lt x y l k, rank_ge x y l (omega arith))
    go (inr (inl k)) ih = let q = rank_ge x y l (omega arith) in absurd (n (omega (arith, q)) (rw q (sym k)))
    go (inr (inr k)) ih = let q = rank_lt x y l k in rw (insert_gt x y l k, q) (ap (λ (t : List ℕ). y ∷ t) (ih (λ a b. n (omega arith) (rw q b))))

pub nothing-rises : Rising []
unfolding Rising
nothing-rises = tt
