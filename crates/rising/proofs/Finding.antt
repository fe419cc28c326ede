-- The least member that is not below a word, in a set in two runs. Assumes nothing.
use Prim.Native.Nat.{ℕ, ◌+◌, ◌-◌, ◌≤◌, ◌<◌}
use borrow.Author.Rules.{rules}
use lib.ListN.{length, get_or, take, drop, length-drop}
use lib.Seq.{length-take-le, get_or-take, get_or-drop}
use mathlib.Core.List.{List, [], ◌∷◌}
use mathlib.Core.Logic.{◌⊎◌, inl, inr, ⊎_elim}
use mathlib.Core.Path.{◌≡◌, sym, ap, ◌∙◌, subst}
use native.Mathlib.Decide.{dec_lt}
use native.Mathlib.Omega.{arith}
use Rattle.sets.specs.Lists.{Rising, ◌∈◌}
use Rattle.sets.proofs.Lists.{at_in}
use Rattle.rising.proofs.Adding.{run_first, run_last, both, is_held, last_fits, last-rises, last_same}
use Rattle.rising.proofs.RisingSets.{rank_lt, rank_ge, add_all_in, in_add_all}
use Rattle.rising.specs.Growing.{held, first_run, Runs, From}
use Rattle.rising.specs.RisingSets.{rank}

-- what stands at the rank of x is not below x
rank-reaches : (x : ℕ) (l : List ℕ) → rank x l < length l → x ≤ get_or l (rank x l) 0
rank-reaches x [] h = absurd (omega arith)
rank-reaches x (z ∷ l) h = go (dec_lt z x) (rank-reaches x l)
  where
    go : Dec (z < x) → (rank x l < length l → x ≤ get_or l (rank x l) 0) → x ≤ get_or (z ∷ l) (rank x (z ∷ l)) 0
    go (yes k) ih = let q = rank_lt x z l k in rw q (ih (omega arith))
    go (no k) ih = let q = rank_ge x z l (omega (arith, k)) in rw q (omega (arith, k))

-- and is the least of those that are not
rank-least : (x : ℕ) (l : List ℕ) (y : ℕ) → Rising l → y ∈ l → x ≤ y → (rank x l < length l) × (get_or l (rank x l) 0 ≤ y)
unfolding Rising
rank-least x [] y r m h = absurd m
rank-least x (z ∷ l) y r m h = go (dec_lt z x) m (λ i. rank-least x l y r.1 i h)
  where
    go : Dec (z < x) → (y ≡ z) ⊎ (y ∈ l) → (y ∈ l → (rank x l < length l) × (get_or l (rank x l) 0 ≤ y)) → (rank x (z ∷ l) < length (z ∷ l)) × (get_or (z ∷ l) (rank x (z ∷ l)) 0 ≤ y)
    go (yes k) (inl e) ih = absurd (omega arith)
    go (yes k) (inr i) ih = let q = rank_lt x z l k in (omega (arith, (ih i).0), rw q (ih i).1)
    go (no k) s ih = let q = rank_ge x z l (omega (arith, k)) in (omega arith, rw q (⊎_elim (λ e. omega arith) (λ i. let b = r.0 y i in omega arith) s))

module _ (xs : List ℕ) (n x m : ℕ) (pre : (n ≤ length xs) × Runs n xs) (e : m ≡ first_run n) (a c : ℕ) (ea : a ≡ rank x (take m xs)) (la : a ≤ m)
    (ec : c ≡ rank x (take (n - m) (take (length xs - m) (drop m xs)))) (lc : c ≤ n - m) where
  abbrev first : List ℕ
  first = take m xs

  abbrev last : List ℕ
  last = take (n - m) (drop m xs)

  long_first : length first ≡ m
  long_first = length-take-le m xs (omega (arith, both xs n x m pre e, pre.0))

  long_last : length last ≡ n - m
  long_last = length-take-le (n - m) (drop m xs) (omega (arith, both xs n x m pre e, pre.0, length-drop m xs))

  ec' : c ≡ rank x last
  ec' = ec ∙ ap (rank x) (last_same xs n x m pre e)

  at_first : a < m → get_or first (rank x first) 0 ≡ get_or xs a 0
  at_first h = ap (λ (i : ℕ). get_or first i 0) (sym ea) ∙ get_or-take m xs a 0 h

  at_last : c < n - m → get_or last (rank x last) 0 ≡ get_or xs (m + c) 0
  at_last h = ap (λ (i : ℕ). get_or last i 0) (sym ec') ∙ get_or-take (n - m) (drop m xs) c 0 h ∙ get_or-drop m xs c 0

  in_held : (y : ℕ) → (y ∈ first) ⊎ (y ∈ last) → y ∈ held n xs
  in_held y s = subst (λ (l : List ℕ). y ∈ l) (sym (is_held xs n x m pre e)) (add_all_in y last first (⊎_elim (λ i. inr i) (λ i. inl i) s))

  held_in : (y : ℕ) → y ∈ held n xs → (y ∈ first) ⊎ (y ∈ last)
  held_in y i = ⊎_elim (λ j. inr j) (λ j. inl j) (in_add_all y last first (subst (λ (l : List ℕ). y ∈ l) (is_held xs n x m pre e) i))

  member_first : a < m → get_or xs a 0 ∈ held n xs
  member_first h = in_held (get_or xs a 0) (inl (subst (λ (y : ℕ). y ∈ first) (get_or-take m xs a 0 h) (at_in first 0 a (omega (arith, long_first)))))

  member_last : c < n - m → get_or xs (m + c) 0 ∈ held n xs
  member_last h = in_held (get_or xs (m + c) 0)
      (inr (subst (λ (y : ℕ). y ∈ last) (get_or-take (n - m) (drop m xs) c 0 h ∙ get_or-drop m xs c 0) (at_in last 0 c (omega (arith, long_last)))))

  above_first : a < m → x ≤ get_or xs a 0
  above_first h = let k = rank-reaches x first (omega (arith, long_first, ea)) in omega (arith, at_first h)

  above_last : c < n - m → x ≤ get_or xs (m + c) 0
  above_last h = let k = rank-reaches x last (omega (arith, long_last, ec')) in omega (arith, at_last h)

  least_first : (y : ℕ) → y ∈ first → x ≤ y → (a < m) × (get_or xs a 0 ≤ y)
  least_first y i h = let k = rank-least x first y (run_first xs n x m pre e) i h in let b : a < m = omega (arith, k.0, long_first, ea) in (b, omega (arith, k.1, at_first b))

  least_last : (y : ℕ) → y ∈ last → x ≤ y → (c < n - m) × (get_or xs (m + c) 0 ≤ y)
  least_last y i h = let k = rank-least x last y (run_last xs n x m pre e) i h in let b : c < n - m = omega (arith, k.0, long_last, ec') in (b, omega (arith, k.1, at_last b))

  -- all of the first run are below
  pub from_last : a ≡ m → From xs n x (m + c)
  from_last q = record {
    within = omega (arith, both xs n x m pre e);
    none = λ w y i. ⊎_elim (λ j. under (dec_lt y x) (λ h. let k = least_first y j h in omega (arith, k.0)))
        (λ j. under (dec_lt y x) (λ h. let k = least_last y j h in omega (arith, k.0))) (held_in y i);
    member = λ w. member_last (omega (arith, both xs n x m pre e));
    above = λ w. above_last (omega (arith, both xs n x m pre e));
    lowest = λ w y i h. ⊎_elim (λ j. let k = least_first y j h in absurd (omega (arith, k.0))) (λ j. (least_last y j h).1) (held_in y i);
  }
    where
      under : {y : ℕ} → Dec (y < x) → (x ≤ y → ⊥) → y < x
      under (yes h) f = h
      under (no k) f = absurd (f (omega (arith, k)))

  -- all of the second are
  pub from_first : (a ≡ m → ⊥) → m + c ≡ n → From xs n x a
  from_first q w =
      let h : a < m = omega (arith, q) in
      record {
        within = omega (arith, both xs n x m pre e);
        none = λ v. absurd (omega (arith, both xs n x m pre e));
        member = λ v. member_first h;
        above = λ v. above_first h;
        lowest = λ v y i g. ⊎_elim (λ j. (least_first y j g).1) (λ j. let k = least_last y j g in absurd (omega (arith, k.0))) (held_in y i);
      }

  -- neither: the lesser of the two
  pub from_less : (a ≡ m → ⊥) → (m + c ≡ n → ⊥) → get_or xs a 0 < get_or xs (m + c) 0 → From xs n x a
  from_less q w l =
      let h : a < m = omega (arith, q) in
      record {
        within = omega (arith, both xs n x m pre e);
        none = λ v. absurd (omega (arith, both xs n x m pre e));
        member = λ v. member_first h;
        above = λ v. above_first h;
        lowest = λ v y i g. ⊎_elim (λ j. (least_first y j g).1) (λ j. let k = least_last y j g in omega (arith, k.1)) (held_in y i);
      }

  pub from_more : (a ≡ m → ⊥) → (m + c ≡ n → ⊥) → get_or xs (m + c) 0 ≤ get_or xs a 0 → From xs n x (m + c)
  from_more q w l =
      let h : c < n - m = omega (arith, w, both xs n x m pre e) in
      record {
        within = omega (arith, both xs n x m pre e);
        none = λ v. absurd (w v);
        member = λ v. member_last h;
        above = λ v. above_last h;
        lowest = λ v y i g. ⊎_elim (λ j. let k = least_first y j g in omega (arith, k.1)) (λ j. (least_last y j g).1) (held_in y i);
      }

pub ruleset finding = (run_first, last_fits, last-rises, from_last, from_first, from_less, from_more, rules)
