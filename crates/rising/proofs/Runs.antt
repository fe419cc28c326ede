-- Two rising runs of words that have no word in common. Assumes nothing.
use Prim.Native.Nat.{ℕ, suc, ◌+◌, ◌-◌, ◌≤◌, ◌<◌}
use lib.ListN.{length, take, drop, length-drop}
use lib.Seq.{length-take-le, take-add}
use mathlib.Core.List.{List, [], ◌∷◌, ◌++◌}
use mathlib.Core.Logic.{◌⊎◌, inl, inr, ⊎_elim}
use mathlib.Core.Path.{◌≡◌, refl, sym, ap, ◌∙◌, subst}
use native.Mathlib.Omega.{arith}
use Rattle.sets.specs.Lists.{Rising, ◌∈◌}
use Rattle.sets.proofs.Lists.{in-++-l, in-++-r}
use Rattle.sets.proofs.Rising.{rising_ext}
use Rattle.rising.proofs.RisingSets.{order, insert_lt, insert_gt, in_insert, insert_in, insert_rising, add_all_++, add_all_in, add_all-rising, in_add_all, nothing-rises}
use Rattle.rising.specs.Growing.{held, first_run, Split, Runs}
use Rattle.rising.specs.RisingSets.{insert_into, add_all, gather}

-- ---- rising lists

-- a rising list is the set of its members
pub gather-rising : (l : List ℕ) → Rising l → gather l ≡ l
gather-rising l r = rising_ext (gather l) l (add_all-rising l [] nothing-rises) r
    (λ z m. ⊎_elim (λ i. i) (λ b. absurd b) (in_add_all z l [] m)) (λ z m. add_all_in z l [] (inl m))

pub rising_left : (a b : List ℕ) → Rising (a ++ b) → Rising a
unfolding Rising
rising_left [] b r = tt
rising_left (x ∷ a) b r = (λ y m. r.0 y (in-++-l y a b m), rising_left a b r.1)

pub rising_right : (a b : List ℕ) → Rising (a ++ b) → Rising b
unfolding Rising
rising_right [] b r = r
rising_right (x ∷ a) b r = rising_right a b r.1

pub rising_across : (a b : List ℕ) → Rising (a ++ b) → (x y : ℕ) → x ∈ a → y ∈ b → x < y
unfolding Rising
rising_across [] b r x y m n = absurd m
rising_across (z ∷ a) b r x y (inl e) n = let h = r.0 y (in-++-r y a b n) in omega arith
rising_across (z ∷ a) b r x y (inr m) n = rising_across a b r.1 x y m n

-- what is there is not put in twice
pub insert_same : (x : ℕ) (l : List ℕ) → Rising l → x ∈ l → insert_into x l ≡ l
insert_same x l r m = rising_ext (insert_into x l) l (insert_rising x l r) r (λ z i. ⊎_elim (λ e. subst (λ (k : ℕ). k ∈ l) (sym e) m) (λ j. j) (in_insert x z l i)) (λ z i. insert_in x z l (inr i))

pub insert_length : (x : ℕ) (l : List ℕ) → (x ∈ l → ⊥) → length (insert_into x l) ≡ suc (length l)
unfolding insert_into
insert_length x [] n = refl
insert_length x (y ∷ l) n = go (order x y) (insert_length x l (λ m. n (inr m)))
  where
    go : (x < y) ⊎ ((x ≡ y) ⊎ (y < x)) → length (insert_into x l) ≡ suc (length l) → length (insert_into x (y ∷ l)) ≡ suc (suc (length l))
    go (inl h) ih = ap length (insert_lt x y l h)
    go (inr (inl h)) ih = absurd (n (inl h))
    go (inr (inr h)) ih = ap length (insert_gt x y l h) ∙ ap suc ih

-- between what is below and what is above
pub insert_between : (x : ℕ) (a b : List ℕ) → ((y : ℕ) → y ∈ a → y < x) → ((y : ℕ) → y ∈ b → x < y) → insert_into x (a ++ b) ≡ a ++ (x ∷ b)
unfolding insert_into
insert_between x [] [] f g = refl
insert_between x [] (y ∷ b) f g = insert_lt x y b (g y (inl refl))
insert_between x (y ∷ a) b f g = insert_gt x y (a ++ b) (f y (inl refl)) ∙ ap (λ (l : List ℕ). y ∷ l) (insert_between x a b (λ z m. f z (inr m)) g)

-- ---- two lists

pub union_length : (a b : List ℕ) → Rising b → ((x : ℕ) → x ∈ a → x ∈ b → ⊥) → length (add_all b a) ≡ length a + length b
unfolding add_all Rising
union_length a [] r f = omega arith
union_length a (y ∷ b) r f =
    let ih = union_length (insert_into y a) b r.1 (λ x m n. ⊎_elim (λ e. let h = r.0 x n in omega arith) (λ i. f x i (inr n)) (in_insert y x a m)) in
    omega (arith, insert_length y a (λ m. f y m (inl refl)))

-- a member put into the second of two lists
pub insert_union : (x : ℕ) (a b : List ℕ) → Rising a → insert_into x (add_all b a) ≡ add_all (insert_into x b) a
insert_union x a b r = rising_ext (insert_into x (add_all b a)) (add_all (insert_into x b) a) (insert_rising x (add_all b a) (add_all-rising b a r)) (add_all-rising (insert_into x b) a r)
    (λ z m. add_all_in z (insert_into x b) a (⊎_elim (λ e. inl (insert_in x z b (inl e))) (λ i. ⊎_elim (λ j. inl (insert_in x z b (inr j))) (λ j. inr j) (in_add_all z b a i))
    (in_insert x z (add_all b a) m)))
    (λ z m. insert_in x z (add_all b a) (⊎_elim (λ i. ⊎_elim (λ e. inl e) (λ j. inr (add_all_in z b a (inl j))) (in_insert x z b i)) (λ i. inr (add_all_in z b a (inr i)))
    (in_add_all z (insert_into x b) a m)))

-- ---- the runs of a slice

pub run≤ : (n : ℕ) → first_run n ≤ n
unfolding first_run
run≤ n = omega arith

pub run_both : (n : ℕ) → first_run n + (n - first_run n) ≡ n
run_both n = omega (arith, run≤ n)

-- the first run stays while fewer than 256 words stand behind it
pub run_kept : (n t : ℕ) → t < 256 → first_run (first_run n + t) ≡ first_run n
unfolding first_run
run_kept n t h = omega arith

pub held-split : (m k : ℕ) (xs : List ℕ) → Split m k xs → held (m + k) xs ≡ add_all (take k (drop m xs)) (take m xs)
unfolding held
held-split m k xs s = ap gather (take-add m k xs) ∙ add_all_++ (take m xs) (take k (drop m xs)) [] ∙ ap (add_all (take k (drop m xs))) (gather-rising (take m xs) s.first)

pub held-runs : (n : ℕ) (xs : List ℕ) → Runs n xs → held n xs ≡ add_all (take (n - first_run n) (drop (first_run n) xs)) (take (first_run n) xs)
held-runs n xs r = ap (λ (k : ℕ). held k xs) (sym (run_both n)) ∙ held-split (first_run n) (n - first_run n) xs r.split

pub split-length : (m k : ℕ) (xs : List ℕ) → m + k ≤ length xs → Split m k xs → length (add_all (take k (drop m xs)) (take m xs)) ≡ m + k
split-length m k xs h s = omega (
  arith,
  union_length (take m xs) (take k (drop m xs)) s.last s.apart,
  length-take-le m xs (omega arith),
  length-take-le k (drop m xs) (omega (arith, length-drop m xs)),
)

pub rising-split : (m k : ℕ) (xs : List ℕ) → Rising (take (m + k) xs) → Split m k xs
rising-split m k xs r =
    let s : Rising (take m xs ++ take k (drop m xs)) = subst Rising (take-add m k xs) r in
    record {
      first = rising_left (take m xs) (take k (drop m xs)) s;
      last = rising_right (take m xs) (take k (drop m xs)) s;
      apart = λ x i j. let h : x < x = rising_across (take m xs) (take k (drop m xs)) s x x i j in omega arith;
    }
