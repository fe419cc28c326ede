-- The merge of two runs: the words of the second are set aside, and the places are filled from the greatest word down. Assumes nothing.
use Prim.Native.Nat.{ℕ, suc, ◌+◌, ◌-◌, ◌≤◌, ◌<◌}
use borrow.Author.Rules.{rules}
use borrow.Author.Tests.{lt-ltb, le-ltb, ltb-true, ltb-false}
use lib.Dec.{ltb}
use lib.ListN.{length, get_or, take, drop, set, length-set, length-drop, take-append-drop}
use lib.Seq.{take-suc, take-suc-set, take-set-le, take-set-lt, take-take, drop-cons, drop-length, drop-set-lt, get_or-set_same, get_or-drop, length-take-le}
use mathlib.Core.Bool.{Bool, true, false}
use mathlib.Core.List.{List, [], ◌∷◌, ◌++◌, append-nil, append_assoc}
use mathlib.Core.Logic.{◌⊎◌, inl, inr, ⊎_elim}
use mathlib.Core.Path.{◌≡◌, refl, sym, ap, ap₂, ◌∙◌, subst}
use native.Mathlib.Decide.{dec_lt}
use native.Mathlib.Numerals.{add-one}
use native.Mathlib.Omega.{arith}
use Rattle.sets.specs.Lists.{Rising, ◌∈◌}
use Rattle.sets.proofs.Lists.{in-++, in-++-l, in-++-r}
use Rattle.rising.proofs.RisingSets.{add_all_same, insert_rising}
use Rattle.rising.proofs.Runs.{rising_left, rising_across, insert_between, held-split}
use Rattle.rising.specs.Growing.{held, Split, Settled, above_at}
use Rattle.rising.specs.RisingSets.{insert_into, add_all}

-- ---- the words set aside

-- the first q words from m on are copied
pub record Keeping (xs : List ℕ) (m k : ℕ) (tail : List ℕ) (q : ℕ) : Type 0 where
  pub fits : m + k ≤ length xs
  pub most : k ≤ 256
  pub within : q ≤ k
  pub long : length tail ≡ 256
  pub same : take q tail ≡ take q (drop m xs)

module _ (xs : List ℕ) (m k : ℕ) (tail : List ℕ) where
  pub keep_start : (m + k ≤ length xs) × (k ≤ 256) × (length tail ≡ 256) → Keeping xs m k tail 0
  keep_start p = record { fits = p.0; most = p.1; within = omega arith; long = p.2; same = refl }

  pub keep_step : (q : ℕ) → Keeping xs m k tail q → q < k → Keeping xs m k (set tail q (get_or xs (m + q) 0)) (q + 1)
  keep_step q s h = record {
    fits = s.fits;
    most = s.most;
    within = omega arith;
    long = length-set tail q (get_or xs (m + q) 0) ∙ s.long;
    same = rw (add-one q) (take-suc-set tail q (get_or xs (m + q) 0) (omega (arith, s.long, s.most))
        ∙ ap₂ (λ (l : List ℕ) (v : ℕ). l ++ (v ∷ [])) s.same (sym (get_or-drop m xs q 0))
        ∙ sym (take-suc (drop m xs) q 0 (omega (arith, s.fits, length-drop m xs))));
  }

  pub keep_done : (q : ℕ) → Keeping xs m k tail q → k ≤ q → take k tail ≡ take k (drop m xs)
  keep_done q s h = let e : q ≡ k = omega (arith, s.within) in ap (λ (i : ℕ). take i tail) (sym e) ∙ s.same ∙ ap (λ (i : ℕ). take i (drop m xs)) e

pub ruleset keeping = (keep_start, keep_step, keep_done, rules)

-- ---- the test

pub above_in : (xs : List ℕ) (p x : ℕ) → 0 < p → ltb x (get_or xs (p - 1) 0) ≡ above_at xs p x
unfolding above_at
above_in xs p x h = rw (lt-ltb 0 p h)

pub above_out : (xs : List ℕ) (p x : ℕ) → p ≤ 0 → false ≡ above_at xs p x
unfolding above_at
above_out xs p x h = rw (le-ltb 0 p h)

above_yes : (xs : List ℕ) (p x : ℕ) → above_at xs p x ≡ true → (0 < p) × (x < get_or xs (p - 1) 0)
above_yes xs p x e = go (dec_lt 0 p)
  where
    go : Dec (0 < p) → (0 < p) × (x < get_or xs (p - 1) 0)
    go (yes h) = (h, ltb-true x (get_or xs (p - 1) 0) (above_in xs p x h ∙ e))
    go (no n) = absurd (let z : ◌≡◌ {A = ℕ} 0 1 = cc (above_out xs p x (omega (arith, n))) in omega arith)

above_no : (xs : List ℕ) (p x : ℕ) → above_at xs p x ≡ false → 0 < p → get_or xs (p - 1) 0 ≤ x
above_no xs p x e h = ltb-false x (get_or xs (p - 1) 0) (above_in xs p x h ∙ e)

pub above_some : (xs : List ℕ) (p x : ℕ) (r : Bool) → r ≡ above_at xs p x → r ≡ true → 1 ≤ p
above_some xs p x r e t = omega (arith, (above_yes xs p x (sym e ∙ t)).0)

pub above_less : (xs : List ℕ) (p q x : ℕ) (r : Bool) → r ≡ above_at xs p x → r ≡ true → p - 1 + q < p + q
above_less xs p q x r e t = omega (arith, (above_yes xs p x (sym e ∙ t)).0)

-- ---- the last of the first words

front : (l : List ℕ) (p : ℕ) → 0 < p → p ≤ length l → take p l ≡ take (p - 1) l ++ (get_or l (p - 1) 0 ∷ [])
front l p h k = let e : p ≡ suc (p - 1) = omega arith in ap (λ (i : ℕ). take i l) e ∙ take-suc l (p - 1) 0 (omega arith)

front_in : (l : List ℕ) (p y : ℕ) → 0 < p → p ≤ length l → y ∈ take p l → (y ∈ take (p - 1) l) ⊎ (y ≡ get_or l (p - 1) 0)
front_in l p y h k m =
    ⊎_elim (λ i. inl i) (λ i. ⊎_elim (λ e. inr e) (λ b. absurd b) i) (in-++ y (take (p - 1) l) (get_or l (p - 1) 0 ∷ []) (subst (λ (s : List ℕ). y ∈ s) (front l p h k) m))

in_front : (l : List ℕ) (p y : ℕ) → 0 < p → p ≤ length l → (y ≡ get_or l (p - 1) 0) ⊎ (y ∈ take (p - 1) l) → y ∈ take p l
in_front l p y h k s = subst (λ (t : List ℕ). y ∈ t) (sym (front l p h k))
    (⊎_elim (λ e. in-++-r y (take (p - 1) l) (get_or l (p - 1) 0 ∷ []) (inl e)) (λ i. in-++-l y (take (p - 1) l) (get_or l (p - 1) 0 ∷ []) i) s)

front_below : (l : List ℕ) (p y : ℕ) → 0 < p → p ≤ length l → Rising (take p l) → y ∈ take (p - 1) l → y < get_or l (p - 1) 0
front_below l p y h k r m = rising_across (take (p - 1) l) (get_or l (p - 1) 0 ∷ []) (subst Rising (front l p h k) r) y (get_or l (p - 1) 0) m (inl refl)

-- a word put before the words from the place behind it on
placed : (l : List ℕ) (n i v : ℕ) → i < n → n ≤ length l → drop i (take n (set l i v)) ≡ v ∷ drop (suc i) (take n l)
placed l n i v h k =
    let e = length-take-le n l k in
    ap (drop i) (take-set-lt n l i v h)
    ∙ drop-cons (set (take n l) i v) i 0 (omega (arith, length-set (take n l) i v))
    ∙ ap₂ (λ (x : ℕ) (t : List ℕ). x ∷ t) (get_or-set_same (take n l) i v 0 (omega arith)) (drop-set-lt (suc i) (take n l) i v (omega arith))

add_first : (x : ℕ) (a l : List ℕ) → add_all (x ∷ a) l ≡ add_all a (insert_into x l)
unfolding add_all
add_first x a l = refl

-- ---- the merge

-- of n words the first p and the q set aside are still to be merged; those behind the first p + q places stand where they belong
pub record Merging (xs : List ℕ) (n : ℕ) (tail out : List ℕ) (p q : ℕ) : Type 0 where
  pub fits : n ≤ length xs
  pub long : length out ≡ length xs
  pub within : p + q ≤ n
  pub aside : q ≤ length tail
  pub tops : Rising (take q tail)
  pub apart : (x : ℕ) → x ∈ take p out → x ∈ take q tail → ⊥
  pub rises : Rising (take p out ++ drop (p + q) (take n out))
  pub below : (x y : ℕ) → x ∈ take q tail → y ∈ drop (p + q) (take n out) → x < y
  pub whole : add_all (take q tail) (take p out ++ drop (p + q) (take n out)) ≡ held n xs

pub merge_start : (xs : List ℕ) (m k : ℕ) (tail : List ℕ) → (m + k ≤ length xs) × (k ≤ 256) × Split m k xs → length tail ≡ 256 → take k tail ≡ take k (drop m xs)
    → Merging xs (m + k) tail xs m k
merge_start xs m k tail p l e =
    let h : m + k ≤ length xs = p.0 in
    let s : Split m k xs = p.2 in
    let none : drop (m + k) (take (m + k) xs) ≡ [] = ap (λ (i : ℕ). drop i (take (m + k) xs)) (sym (length-take-le (m + k) xs h)) ∙ drop-length (take (m + k) xs) in
    let all : take m xs ++ drop (m + k) (take (m + k) xs) ≡ take m xs = ap (λ (t : List ℕ). take m xs ++ t) none ∙ append-nil (take m xs) in
    record {
      fits = h;
      long = refl;
      within = omega arith;
      aside = omega (arith, p.1);
      tops = subst Rising (sym e) s.last;
      apart = λ x i j. s.apart x i (subst (λ (t : List ℕ). x ∈ t) e j);
      rises = subst Rising (sym all) s.first;
      below = λ x y i j. absurd (subst (λ (t : List ℕ). y ∈ t) none j);
      whole = ap₂ add_all e all ∙ sym (held-split m k xs s);
    }

module _ (xs : List ℕ) (n : ℕ) (tail out : List ℕ) (p q : ℕ) (s : Merging xs n tail out p q) (h : 0 < q) (r : Bool) (t : r ≡ above_at out p (get_or tail (q - 1) 0)) where
  abbrev rest : List ℕ
  rest = drop (p + q) (take n out)

  abbrev at : ℕ
  at = p + q - 1

  filled : (v : ℕ) → drop at (take n (set out at v)) ≡ v ∷ rest
  filled v = placed out n at v (omega (arith, s.within)) (omega (arith, s.fits, s.long)) ∙ ap (λ (i : ℕ). v ∷ drop i (take n out)) (let e : suc at ≡ p + q = omega arith in e)

  first : Rising (take p out)
  first = rising_left (take p out) rest s.rises

  -- the last of the first run moves up
  pub merge_up : r ≡ true → Merging xs n tail (set out (p + q - 1) (get_or out (p - 1) 0)) (p - 1) q
  merge_up f =
      let y = above_yes out p (get_or tail (q - 1) 0) (sym t ∙ f) in
      let g : 0 < p = y.0 in
      let v : ℕ = get_or out (p - 1) 0 in
      let fit : p ≤ length out = omega (arith, s.within, s.fits, s.long) in
      let e : p - 1 + q ≡ p + q - 1 = omega arith in
      let new : drop (p - 1 + q) (take n (set out (p + q - 1) v)) ≡ v ∷ rest = ap (λ (i : ℕ). drop i (take n (set out (p + q - 1) v))) e ∙ filled v in
      let old : take (p - 1) (set out (p + q - 1) v) ≡ take (p - 1) out = take-set-le (p - 1) out (p + q - 1) v (omega arith) in
      let all : take (p - 1) (set out (p + q - 1) v) ++ drop (p - 1 + q) (take n (set out (p + q - 1) v)) ≡ take p out ++ rest =
      ap₂ (λ (a b : List ℕ). a ++ b) old new ∙ sym (ap (λ (a : List ℕ). a ++ rest) (front out p g fit) ∙ append_assoc (take (p - 1) out) (v ∷ []) rest) in
      record {
        fits = s.fits;
        long = length-set out (p + q - 1) v ∙ s.long;
        within = omega (arith, s.within);
        aside = s.aside;
        tops = s.tops;
        apart = λ x i j. s.apart x (in_front out p x g fit (inr (subst (λ (l : List ℕ). x ∈ l) old i))) j;
        rises = subst Rising (sym all) s.rises;
        below = λ x z i j. ⊎_elim
            (λ e. ⊎_elim (λ k. let b = front_below tail q x h s.aside s.tops k in omega (arith, y.1)) (λ k. omega (arith, y.1)) (front_in tail q x h s.aside i))
            (λ k. s.below x z i k) (subst (λ (l : List ℕ). z ∈ l) new j);
        whole = ap (add_all (take q tail)) all ∙ s.whole;
      }

  -- the last of those set aside is put down
  pub merge_down : r ≡ false → Merging xs n tail (set out (p + q - 1) (get_or tail (q - 1) 0)) p (q - 1)
  merge_down f =
      let v : ℕ = get_or tail (q - 1) 0 in
      let fit : p ≤ length out = omega (arith, s.within, s.fits, s.long) in
      let e : p + (q - 1) ≡ p + q - 1 = omega arith in
      let new : drop (p + (q - 1)) (take n (set out (p + q - 1) v)) ≡ v ∷ rest = ap (λ (i : ℕ). drop i (take n (set out (p + q - 1) v))) e ∙ filled v in
      let old : take p (set out (p + q - 1) v) ≡ take p out = take-set-le p out (p + q - 1) v (omega arith) in
      let last : v ∈ take q tail = in_front tail q v h s.aside (inl refl) in
      let low : (z : ℕ) → z ∈ take p out → z < v = under in
      let mid : insert_into v (take p out ++ rest) ≡ take p out ++ (v ∷ rest) = insert_between v (take p out) rest low (λ z i. s.below v z last i) in
      let again : add_all (take q tail) (take p out ++ rest) ≡ add_all (take (q - 1) tail) (insert_into v (take p out ++ rest)) =
      add_all_same (take q tail) (v ∷ take (q - 1) tail) (take p out ++ rest) s.rises
      (λ z i. ⊎_elim (λ k. inr k) (λ k. inl k) (front_in tail q z h s.aside i)) (λ z i. in_front tail q z h s.aside i) ∙ add_first v (take (q - 1) tail) (take p out ++ rest) in
      let all : take p (set out (p + q - 1) v) ++ drop (p + (q - 1)) (take n (set out (p + q - 1) v)) ≡ insert_into v (take p out ++ rest) = ap₂ (λ (a b : List ℕ). a ++ b) old new ∙ sym mid in
      record {
        fits = s.fits;
        long = length-set out (p + q - 1) v ∙ s.long;
        within = omega (arith, s.within);
        aside = omega (arith, s.aside);
        tops = rising_left (take (q - 1) tail) (v ∷ []) (subst Rising (front tail q h s.aside) s.tops);
        apart = λ x i j. s.apart x (subst (λ (l : List ℕ). x ∈ l) old i) (in_front tail q x h s.aside (inr j));
        rises = subst Rising (sym all) (insert_rising v (take p out ++ rest) s.rises);
        below = λ x z i j. ⊎_elim (λ e. let b = front_below tail q x h s.aside s.tops i in omega arith) (λ k. s.below x z (in_front tail q x h s.aside (inr i)) k)
            (subst (λ (l : List ℕ). z ∈ l) new j);
        whole = ap (add_all (take (q - 1) tail)) all ∙ sym again ∙ s.whole;
      }
    where
      under : (z : ℕ) → z ∈ take p out → z < get_or tail (q - 1) 0
      under z i = go (dec_lt 0 p)
        where
          go : Dec (0 < p) → z < get_or tail (q - 1) 0
          go (no g) = let e : p ≡ 0 = omega (arith, g) in absurd (subst (λ (k : ℕ). z ∈ take k out) e i)
          go (yes g) =
              let fit : p ≤ length out = omega (arith, s.within, s.fits, s.long) in
              let b = above_no out p (get_or tail (q - 1) 0) (sym t ∙ f) g in
              ⊎_elim (λ k. let c = front_below out p z g fit first k in omega arith)
              (λ e. let ne : z ≡ get_or tail (q - 1) 0 → ⊥ = λ d. s.apart z i (in_front tail q z h s.aside (inl d)) in omega (arith, ne))
              (front_in out p z g fit i)

pub merge_done : (xs : List ℕ) (n : ℕ) (tail out : List ℕ) (p q : ℕ) → Merging xs n tail out p q → q ≤ 0 → Settled xs n out
unfolding add_all
merge_done xs n tail out p q s h =
    let e : q ≡ 0 = omega arith in
    let j : p + q ≡ p = omega arith in
    record {
      words = sym (take-append-drop p (take n out)) ∙ ap₂ (λ (l : List ℕ) (i : ℕ). l ++ drop i (take n out)) (take-take p n out (omega (arith, s.within))) (sym j)
          ∙ ap (λ (i : ℕ). add_all (take i tail) (take p out ++ drop (p + q) (take n out))) (sym e) ∙ s.whole;
      long = s.long;
    }

pub ruleset merging = (above_in, above_out, above_some, above_less, merge_start, merge_up, merge_down, merge_done, rules)
