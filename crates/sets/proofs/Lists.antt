-- Laws of members, of tests on every member, and of the lists that a number spans. Assumes nothing.
use mathlib.Core.Path.{◌≡◌, refl, sym, ap, ap₂, ◌∙◌, subst}
use mathlib.Core.Logic.{◌⊎◌, inl, inr, ⊎_elim}
use mathlib.Core.Bool.{Bool, true, false, cond, not, ◌&&◌, ◌||◌}
use mathlib.Core.List.{List, [], ◌∷◌, ◌++◌, map, flat_map}
use Prim.Native.Nat.{ℕ, zero, suc, ◌+◌, ◌-◌, ◌≤◌, ◌<◌}
use native.Mathlib.Nat.{zero-add, add-zero, add-suc, suc-add, sub-zero, not-suc-le-zero, le_of_suc-le-suc, eq-or-lt_of_le}
use native.Mathlib.Numerals.{add-one}
use native.Mathlib.Omega.{arith}
use lib.Dec.{T}
use lib.ListN.{length, get_or}
use Rattle.sets.specs.Lists.{◌∈◌, Each, Some, every, any_of, sift, up_from, onward, tabulate, below}
use Rattle.sets.proofs.Tests.{clash, both_true, both_false, and_is_true, T?, T_true, true_T}

-- ---- members
module _ {A : Type 0} where
  pub in-++-l : (x : A) (s t : List A) → x ∈ s → x ∈ (s ++ t)
  in-++-l x [] t m = absurd m
  in-++-l x (y ∷ s) t (inl e) = inl e
  in-++-l x (y ∷ s) t (inr m) = inr (in-++-l x s t m)

  pub in-++-r : (x : A) (s t : List A) → x ∈ t → x ∈ (s ++ t)
  in-++-r x [] t m = m
  in-++-r x (y ∷ s) t m = inr (in-++-r x s t m)

  pub in-++ : (x : A) (s t : List A) → x ∈ (s ++ t) → (x ∈ s) ⊎ (x ∈ t)
  in-++ x [] t m = inr m
  in-++ x (y ∷ s) t (inl e) = inl (inl e)
  in-++ x (y ∷ s) t (inr m) = ⊎_elim (λ p. inl (inr p)) (λ q. inr q) (in-++ x s t m)

  pub each-++ : (P : A → Type 0) (s t : List A) → Each P s → Each P t → Each P (s ++ t)
  each-++ P s t f g x m = ⊎_elim (f x) (g x) (in-++ x s t m)

  -- what stands at a place is a member, and a member stands at some place
  pub at_in : (l : List A) (d : A) (i : ℕ) → i < length l → get_or l i d ∈ l
  at_in [] d i h = absurd (not-suc-le-zero h)
  at_in (y ∷ l) d zero h = inl refl
  at_in (y ∷ l) d (suc i) h = inr (at_in l d i (le_of_suc-le-suc h))

  pub in_at : (l : List A) (d x : A) → x ∈ l → (i : ℕ) × (i < length l) × (get_or l i d ≡ x)
  in_at [] d x m = absurd m
  in_at (y ∷ l) d x (inl e) = (0, omega arith, sym e)
  in_at (y ∷ l) d x (inr m) = let r = in_at l d x m in (suc r.0, omega (arith, r.1), r.2)

  -- a member that passes a test, or the fact that none does
  pub find : (W : A → Bool) (l : List A) → Some (λ x. T (W x)) l ⊎ Each (λ x. T (W x) → ⊥) l
  find W [] = inr (λ x m. absurd m)
  find W (y ∷ l) = go (T? (W y)) (find W l)
    where
      go : T (W y) ⊎ (T (W y) → ⊥) → Some (λ x. T (W x)) l ⊎ Each (λ x. T (W x) → ⊥) l → Some (λ x. T (W x)) (y ∷ l) ⊎ Each (λ x. T (W x) → ⊥) (y ∷ l)
      go (inl t) r = inl (y, inl refl, t)
      go (inr f) (inl s) = inl (s.0, inr s.1, s.2)
      go (inr f) (inr g) = inr (λ x m. ⊎_elim (λ e t. f (subst (λ z. T (W z)) e t)) (g x) m)

module _ {A B : Type 0} where
  pub in_map : (f : A → B) (x : A) (l : List A) → x ∈ l → f x ∈ map f l
  in_map f x [] m = absurd m
  in_map f x (y ∷ l) (inl e) = inl (ap f e)
  in_map f x (y ∷ l) (inr m) = inr (in_map f x l m)

  pub map_in : (f : A → B) (z : B) (l : List A) → z ∈ map f l → Some (λ x. z ≡ f x) l
  map_in f z [] m = absurd m
  map_in f z (y ∷ l) (inl e) = (y, inl refl, e)
  map_in f z (y ∷ l) (inr m) = let r = map_in f z l m in (r.0, inr r.1, r.2)

  pub in_flat_map : (f : A → List B) (x : A) (z : B) (l : List A) → x ∈ l → z ∈ f x → z ∈ flat_map f l
  unfolding flat_map
  in_flat_map f x z [] m n = absurd m
  in_flat_map f x z (y ∷ l) (inl e) n = in-++-l z (f y) (flat_map f l) (subst (λ v. z ∈ f v) e n)
  in_flat_map f x z (y ∷ l) (inr m) n = in-++-r z (f y) (flat_map f l) (in_flat_map f x z l m n)

  pub flat_map_in : (f : A → List B) (z : B) (l : List A) → z ∈ flat_map f l → Some (λ x. z ∈ f x) l
  unfolding flat_map
  flat_map_in f z [] m = absurd m
  flat_map_in f z (y ∷ l) m = go (in-++ z (f y) (flat_map f l) m) (λ k. flat_map_in f z l k)
    where
      go : (z ∈ f y) ⊎ (z ∈ flat_map f l) → (z ∈ flat_map f l → Some (λ x. z ∈ f x) l) → Some (λ x. z ∈ f x) (y ∷ l)
      go (inl n) r = (y, inl refl, n)
      go (inr k) r = let s = r k in (s.0, inr s.1, s.2)

-- ---- tests on every member
module _ {A : Type 0} (p : A → Bool) where
  pub every_each : (l : List A) → every p l ≡ true → Each (λ x. p x ≡ true) l
  unfolding every
  every_each [] h x m = absurd m
  every_each (y ∷ l) h x (inl e) = ap p e ∙ (both_true (p y) (every p l) h).0
  every_each (y ∷ l) h x (inr m) = every_each l (both_true (p y) (every p l) h).1 x m

  pub each_every : (l : List A) → Each (λ x. p x ≡ true) l → every p l ≡ true
  unfolding every
  each_every [] f = refl
  each_every (y ∷ l) f = and_is_true _ _ (f y (inl refl)) (each_every l (λ x m. f x (inr m)))

  pub some_in : (l : List A) → any_of p l ≡ true → Some (λ x. p x ≡ true) l
  unfolding any_of
  some_in [] h = clash false h refl
  some_in (y ∷ l) h = go (p y) refl h (some_in l)
    where
      go : (b : Bool) → p y ≡ b → b || any_of p l ≡ true → (any_of p l ≡ true → Some (λ x. p x ≡ true) l) → Some (λ x. p x ≡ true) (y ∷ l)
      go true e h r = (y, inl refl, e)
      go false e h r = let s = r h in (s.0, inr s.1, s.2)

  pub none_each : (l : List A) → any_of p l ≡ false → Each (λ x. p x ≡ false) l
  unfolding any_of
  none_each [] h x m = absurd m
  none_each (y ∷ l) h x (inl e) = ap p e ∙ (both_false (p y) (any_of p l) h).0
  none_each (y ∷ l) h x (inr m) = none_each l (both_false (p y) (any_of p l) h).1 x m

  pub in_some : (l : List A) (x : A) → x ∈ l → p x ≡ true → any_of p l ≡ true
  unfolding any_of
  in_some [] x m t = absurd m
  in_some (y ∷ l) x m t = go (p y) refl m (λ k. in_some l x k t)
    where
      go : (b : Bool) → p y ≡ b → (x ≡ y) ⊎ (x ∈ l) → (x ∈ l → any_of p l ≡ true) → b || any_of p l ≡ true
      go true e k r = refl
      go false e (inl q) r = clash (p x) t (ap p q ∙ e)
      go false e (inr k) r = r k

  pub some_none : (l : List A) → Each (λ x. p x ≡ false) l → any_of p l ≡ false
  unfolding any_of
  some_none [] f = refl
  some_none (y ∷ l) f = rw (f y (inl refl)) (some_none l (λ x m. f x (inr m)))

  -- a test that says the same of every member
  pub some_same : (q : A → Bool) (l : List A) → Each (λ x. p x ≡ q x) l → any_of p l ≡ any_of q l
  unfolding any_of
  some_same q [] f = refl
  some_same q (y ∷ l) f = rw (f y (inl refl), some_same q l (λ x m. f x (inr m)))

  -- every member passes where none fails
  pub every_some : (l : List A) → every p l ≡ not (any_of (λ x. not (p x)) l)
  unfolding every any_of
  every_some [] = refl
  every_some (y ∷ l) = go (p y) (every_some l)
    where
      go : (b : Bool) → every p l ≡ not (any_of (λ x. not (p x)) l) → b && every p l ≡ not (not b || any_of (λ x. not (p x)) l)
      go true e = e
      go false e = refl

  -- ---- the members that pass
  pub sift_in : (l : List A) (x : A) → x ∈ l → p x ≡ true → x ∈ sift p l
  unfolding sift
  sift_in [] x m t = absurd m
  sift_in (y ∷ l) x m t = go (p y) refl m (λ k. sift_in l x k t)
    where
      go : (b : Bool) → p y ≡ b → (x ≡ y) ⊎ (x ∈ l) → (x ∈ l → x ∈ sift p l) → x ∈ cond b (y ∷ sift p l) (sift p l)
      go true e (inl q) r = inl q
      go true e (inr k) r = inr (r k)
      go false e (inl q) r = clash (p x) t (ap p q ∙ e)
      go false e (inr k) r = r k

  pub sift_out : (l : List A) (x : A) → x ∈ sift p l → (x ∈ l) × (p x ≡ true)
  unfolding sift
  sift_out [] x m = absurd m
  sift_out (y ∷ l) x m = go (p y) refl m (λ k. sift_out l x k)
    where
      go : (b : Bool) → p y ≡ b → x ∈ cond b (y ∷ sift p l) (sift p l) → (x ∈ sift p l → (x ∈ l) × (p x ≡ true)) → (x ∈ (y ∷ l)) × (p x ≡ true)
      go true e (inl q) r = (inl q, ap p q ∙ e)
      go true e (inr k) r = (inr (r k).0, (r k).1)
      go false e k r = (inr (r k).0, (r k).1)

  -- the same, where the test is read as a type
  pub in_sift : (l : List A) (x : A) → x ∈ l → T (p x) → x ∈ sift p l
  in_sift l x m t = sift_in l x m (T_true (p x) t)

  pub out_sift : (l : List A) (x : A) → x ∈ sift p l → (x ∈ l) × T (p x)
  out_sift l x m = let r = sift_out l x m in (r.0, true_T (p x) r.1)

-- ---- f i, f (i + 1), ..
module _ {A : Type 0} (f : ℕ → A) where
  pub length-up_from : (k i : ℕ) → length (up_from f k i) ≡ k
  unfolding up_from
  length-up_from zero i = refl
  length-up_from (suc k) i = ap suc (length-up_from k (suc i))

  pub get_d_up_from : (k i j : ℕ) (d : A) → j < k → get_or (up_from f k i) j d ≡ f (i + j)
  unfolding up_from
  get_d_up_from zero i j d h = absurd (not-suc-le-zero h)
  get_d_up_from (suc k) i zero d h = rw add-zero
  get_d_up_from (suc k) i (suc j) d h = get_d_up_from k (suc i) j d (le_of_suc-le-suc h) ∙ rw (add-suc, suc-add)

  pub length-tabulate : (n : ℕ) → length (tabulate f n) ≡ n
  unfolding tabulate
  length-tabulate n = length-up_from n 0

  pub get_d_tabulate : (n j : ℕ) (d : A) → j < n → get_or (tabulate f n) j d ≡ f j
  unfolding tabulate
  get_d_tabulate n j d h = get_d_up_from n 0 j d h ∙ rw zero-add

  pub in_up_from : (k i j : ℕ) → i ≤ j → j < i + k → f j ∈ up_from f k i
  unfolding up_from
  in_up_from zero i j h l = absurd (omega arith)
  in_up_from (suc k) i j h l = ⊎_elim (λ e. inl (ap f (sym e))) (λ q. inr (in_up_from k (suc i) j q (omega arith))) (eq-or-lt_of_le h)

  pub up_from_in : (k i : ℕ) (x : A) → x ∈ up_from f k i → (j : ℕ) × (i ≤ j) × (j < i + k) × (x ≡ f j)
  unfolding up_from
  up_from_in zero i x m = absurd m
  up_from_in (suc k) i x (inl e) = (i, omega arith, omega arith, e)
  up_from_in (suc k) i x (inr m) = let r = up_from_in k (suc i) x m in (r.0, omega (arith, r.1), omega (arith, r.2), r.3)

  pub up_from_ext : (g : ℕ → A) (k i : ℕ) → ((j : ℕ) → j < i + k → f j ≡ g j) → up_from f k i ≡ up_from g k i
  unfolding up_from
  up_from_ext g zero i h = refl
  up_from_ext g (suc k) i h = ap₂ (λ (x : A) (l : List A). x ∷ l) (h i (omega arith)) (up_from_ext g k (suc i) (λ j l. h j (omega arith)))

  -- ---- a loop over f 0, .., f (n - 1)
  pub onward_start : (n : ℕ) → onward f n 0 ≡ tabulate f n
  unfolding onward tabulate
  onward_start n = rw sub-zero

  pub onward_step : (n i : ℕ) → i < n → onward f n i ≡ f i ∷ onward f n (i + 1)
  unfolding onward up_from
  onward_step n i h = let e : n - i ≡ suc (n - (i + 1)) = omega arith in rw (e, add-one i)

  pub onward_done : (n i : ℕ) → n ≤ i → onward f n i ≡ []
  unfolding onward up_from
  onward_done n i h = let e : n - i ≡ 0 = omega arith in rw e

-- ---- loops that test f 0, .., f (n - 1) in turn
module _ {A : Type 0} (f : ℕ → A) (n : ℕ) (p : A → Bool) where
  -- all below i pass
  pub record Kept (i : ℕ) : Type 0 where
    pub within : i ≤ n
    pub rest : every p (onward f n i) ≡ every p (tabulate f n)

  pub kept_start : Kept 0
  kept_start = record { within = omega arith; rest = ap (every p) (onward_start f n) }

  pub kept_not : (i : ℕ) → Kept i → i < n → p (f i) ≡ false → false ≡ every p (tabulate f n)
  unfolding every
  kept_not i s h t = rw t at (sym (ap (every p) (onward_step f n i h))) ∙ s.rest

  pub kept_more : (i : ℕ) → Kept i → i < n → p (f i) ≡ true → Kept (i + 1)
  unfolding every
  kept_more i s h t = record { within = omega arith; rest = rw t at (sym (ap (every p) (onward_step f n i h))) ∙ s.rest }

  pub kept_done : (i : ℕ) → Kept i → n ≤ i → true ≡ every p (tabulate f n)
  unfolding every
  kept_done i s h = sym (ap (every p) (onward_done f n i h)) ∙ s.rest

module _ {A : Type 0} (f : ℕ → A) (n : ℕ) (p : A → Bool) (from : ℕ) where
  -- none between from and i passes
  pub record Lacks (i : ℕ) : Type 0 where
    pub rest : any_of p (onward f n i) ≡ any_of p (onward f n from)

  pub lacks_start : Lacks from
  lacks_start = record { rest = refl }

  pub lacks_not : (i : ℕ) → Lacks i → i < n → p (f i) ≡ true → true ≡ any_of p (onward f n from)
  unfolding any_of
  lacks_not i s h t = rw t at (sym (ap (any_of p) (onward_step f n i h))) ∙ s.rest

  pub lacks_more : (i : ℕ) → Lacks i → i < n → p (f i) ≡ false → Lacks (i + 1)
  unfolding any_of
  lacks_more i s h t = record { rest = rw t at (sym (ap (any_of p) (onward_step f n i h))) ∙ s.rest }

  pub lacks_done : (i : ℕ) → Lacks i → n ≤ i → false ≡ any_of p (onward f n from)
  unfolding any_of
  lacks_done i s h = sym (ap (any_of p) (onward_done f n i h)) ∙ s.rest

-- the same from the start, where none of f 0, .., f (i - 1) passes
module _ {A : Type 0} (f : ℕ → A) (n : ℕ) (p : A → Bool) (i : ℕ) (s : Lacks f n p 0 i) where
  pub lacks_hit : i < n → p (f i) ≡ true → true ≡ any_of p (tabulate f n)
  lacks_hit h t = lacks_not f n p 0 i s h t ∙ ap (any_of p) (onward_start f n)

  pub lacks_none : n ≤ i → false ≡ any_of p (tabulate f n)
  lacks_none h = lacks_done f n p 0 i s h ∙ ap (any_of p) (onward_start f n)

-- ---- the numbers below n
pub below_in : (n x : ℕ) → x < n → x ∈ below n
unfolding below tabulate
below_in n x h = in_up_from (λ i. i) n 0 x (omega arith) (omega arith)

pub in_below : (n x : ℕ) → x ∈ below n → x < n
unfolding below tabulate
in_below n x m = let r = up_from_in (λ i. i) n 0 x m in omega (arith, r.2, r.3)

pub length_below : (n : ℕ) → length (below n) ≡ n
unfolding below
length_below n = length-tabulate (λ i. i) n

-- ---- what passes, in two parts
module _ {A : Type 0} where
  pub up_from-add : (f : ℕ → A) (a b i : ℕ) → up_from f (a + b) i ≡ up_from f a i ++ up_from f b (i + a)
  unfolding up_from
  up_from-add f zero b i = rw (zero-add, add-zero)
  up_from-add f (suc a) b i = rw (suc-add, add-suc) (ap (λ (l : List A). f i ∷ l) (up_from-add f a b (suc i) ∙ rw suc-add))

  pub sift-append : (p : A → Bool) (s t : List A) → sift p (s ++ t) ≡ sift p s ++ sift p t
  unfolding sift
  sift-append p [] t = refl
  sift-append p (x ∷ s) t = go (p x) (sift-append p s t)
    where
      go : (b : Bool) → sift p (s ++ t) ≡ sift p s ++ sift p t → cond b (x ∷ sift p (s ++ t)) (sift p (s ++ t)) ≡ cond b (x ∷ sift p s) (sift p s) ++ sift p t
      go true e = rw e
      go false e = e

  pub sift_none : (p : A → Bool) (l : List A) → Each (λ x. p x ≡ false) l → sift p l ≡ []
  unfolding sift
  sift_none p [] f = refl
  sift_none p (x ∷ l) f = rw (f x (inl refl)) (sift_none p l (λ y m. f y (inr m)))

-- ---- every member of lists put together, of a list of images
module _ {A : Type 0} where
  pub every_append : (p : A → Bool) (xs ys : List A) → every p xs ≡ true → every p ys ≡ true → every p (xs ++ ys) ≡ true
  unfolding every
  every_append p [] ys h k = k
  every_append p (x ∷ xs) ys h k = let a = both_true (p x) (every p xs) h in rw (a.0, every_append p xs ys a.1 k)

  pub every_mono : (q p : A → Bool) → ((x : A) → q x ≡ true → p x ≡ true) → (xs : List A) → every q xs ≡ true → every p xs ≡ true
  unfolding every
  every_mono q p f [] h = refl
  every_mono q p f (x ∷ xs) h = let a = both_true (q x) (every q xs) h in rw (f x a.0, every_mono q p f xs a.1)

module _ {A B : Type 0} where
  pub map-up_from : (g : A → B) (f : ℕ → A) (k i : ℕ) → map g (up_from f k i) ≡ up_from (λ j. g (f j)) k i
  unfolding up_from
  map-up_from g f zero i = refl
  map-up_from g f (suc k) i = ap (λ (l : List B). g (f i) ∷ l) (map-up_from g f k (suc i))
