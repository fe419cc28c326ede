-- A word put into a set in two runs, and the runs brought into one. Assumes nothing.
use Prim.Native.Nat.{ℕ, ◌+◌, ◌-◌, ◌≤◌, ◌<◌}
use borrow.Author.Rules.{rules}
use lib.ListN.{length, take, drop, length-append, length-drop, drop_of_length-le}
use lib.Seq.{get_or-take, length-take-le, take_at, drop_at, take-take}
use mathlib.Core.Bool.{Bool, true, false}
use mathlib.Core.List.{List, [], ◌++◌, append-nil}
use mathlib.Core.Logic.{inr, ⊎_elim}
use mathlib.Core.Path.{◌≡◌, sym, ap, ap₂, ◌∙◌, subst}
use native.Mathlib.Decide.{dec_le}
use native.Mathlib.Omega.{arith}
use Rattle.sets.specs.Lists.{Rising, ◌∈◌}
use Rattle.sets.proofs.Lists.{at_in}
use Rattle.rising.proofs.Growing.{held-rising, rising-runs, rising_held, gathered_held, gathered_as, size≤, size_small}
use Rattle.rising.proofs.RisingSets.{in_insert, insert_rising, insert_most, add_all_in}
use Rattle.rising.proofs.Runs.{insert_same, insert_union, union_length, held-split, run_kept, run≤}
use Rattle.rising.proofs.Slices.{size_fits, size-over, overlay_fits, overlay-length, stands_yes, one_more}
use Rattle.rising.specs.Growing.{held, first_run, Split, Runs, Gathered, Settled, Holds, Behind}
use Rattle.rising.specs.RisingSets.{insert_into, add_all, rank}
use Rattle.rising.specs.Slices.{size, overlay, stands_at, Inserted}

-- ---- whether a word stands in a run

pub holds_is : (xs : List ℕ) (m x at : ℕ) (r : Bool) → (m ≤ length xs) × Rising (take m xs) → at ≡ rank x (take m xs) → r ≡ stands_at xs m at x → Holds (take m xs) x r
holds_is xs m x at r pre e s = record {
  is = λ t. let k = stands_yes xs m at x (sym s ∙ t) in
      subst (λ (y : ℕ). y ∈ take m xs) (get_or-take m xs at 0 k.0 ∙ k.1) (at_in (take m xs) 0 at (omega (arith, k.0, length-take-le m xs pre.0)));
  not = λ f i. let a = one_more xs m x at pre e r s f in let b : length (insert_into x (take m xs)) ≡ length (take m xs) = ap length (insert_same x (take m xs) pre.1 i) in
      omega (arith, length-take-le m xs pre.0);
}

-- ---- the second run, lent as a part

module _ (xs : List ℕ) (m k : ℕ) (pre : (m + k ≤ length xs) × Rising (take k (drop m xs))) where
  part_long : length (take (length xs - m) (drop m xs)) ≡ length xs - m
  part_long = length-take-le (length xs - m) (drop m xs) (omega (arith, length-drop m xs))

  part_same : take k (take (length xs - m) (drop m xs)) ≡ take k (drop m xs)
  part_same = take-take k (length xs - m) (drop m xs) (omega (arith, pre.0))

  pub part_fits : k ≤ length (take (length xs - m) (drop m xs))
  part_fits = omega (arith, pre.0, part_long)

  pub part-rises : Rising (take k (take (length xs - m) (drop m xs)))
  part-rises = subst Rising (sym part_same) pre.1

  pub behind : (x : ℕ) (zs : List ℕ) (t : ℕ) → Inserted (take (length xs - m) (drop m xs)) zs (insert_into x (take k (take (length xs - m) (drop m xs)))) t
      → Behind xs m k x (take m xs ++ (zs ++ drop (length xs - m) (drop m xs))) t
  behind x zs t i =
      let ys = take (length xs - m) (drop m xs) in
      let new = insert_into x (take k (drop m xs)) in
      let same : insert_into x (take k ys) ≡ new = ap (insert_into x) part_same in
      let count : t ≡ size (length xs - m) new = i.count ∙ ap₂ size part_long same in
      let exit : zs ≡ overlay ys new = i.exit ∙ ap (overlay ys) same in
      let none : drop (length xs - m) (drop m xs) ≡ [] = drop_of_length-le (drop m xs) {i = length xs - m} (omega (arith, length-drop m xs)) in
      let whole : take m xs ++ (zs ++ drop (length xs - m) (drop m xs)) ≡ take m xs ++ zs = ap (λ (l : List ℕ). take m xs ++ l) (ap (λ (l : List ℕ). zs ++ l) none ∙ append-nil zs) in
      let front : length (take m xs) ≡ m = length-take-le m xs (omega (arith, pre.0)) in
      let long : length zs ≡ length xs - m = ap length exit ∙ overlay-length ys new ∙ part_long in
      let old : length (take k (drop m xs)) ≡ k = length-take-le k (drop m xs) (omega (arith, pre.0, length-drop m xs)) in
      let small : t ≤ length new = omega (arith, size-least (length xs - m) new) in
      record {
        count = count;
        long = ap length whole ∙ length-append (take m xs) zs ∙ omega (arith, pre.0);
        most = omega (arith, insert_most x (take k (drop m xs)));
        room = omega (arith, size≤ (length xs - m) new, pre.0);
        first = ap (take m) whole ∙ take_at (take m xs) zs m front;
        last = λ h.
            let f : length new ≤ length xs - m = size_small (length xs - m) new (omega (arith, pre.0)) in
            let c : t ≡ length new = count ∙ size_fits (length xs - m) new f in
            ap (λ (l : List ℕ). take t (drop m l)) whole ∙ ap (take t) (drop_at (take m xs) zs m front) ∙ ap (take t) (exit ∙ overlay_fits ys new (omega (arith, part_long)))
            ∙ take_at new (drop (length new) ys) t (sym c);
      }
    where
      size-least : (room : ℕ) (l : List ℕ) → size room l ≤ length l
      size-least room l = go (dec_le (length l) room)
        where
          go : Dec (length l ≤ room) → size room l ≤ length l
          go (yes h) = omega (arith, size_fits room l h)
          go (no n) = omega (arith, n, size-over room l (omega (arith, n)))

-- ---- a word added

module _ (xs : List ℕ) (n x m : ℕ) (pre : (n ≤ length xs) × Runs n xs) (e : m ≡ first_run n) where
  pub run_split : Split m (n - m) xs
  run_split = subst (λ (i : ℕ). Split i (n - i) xs) (sym e) pre.1.split

  pub run_first : Rising (take m xs)
  run_first = run_split.first

  pub run_last : Rising (take (n - m) (drop m xs))
  run_last = run_split.last

  pub both : m + (n - m) ≡ n
  both = omega (arith, run≤ n)

  pub is_held : held n xs ≡ add_all (take (n - m) (drop m xs)) (take m xs)
  is_held = ap (λ (i : ℕ). held i xs) (sym both) ∙ held-split m (n - m) xs run_split

  -- the second run as a part
  pub last_fits : n - m ≤ length (take (length xs - m) (drop m xs))
  last_fits = part_fits xs m (n - m) (omega (arith, both, pre.0), run_last)

  pub last-rises : Rising (take (n - m) (take (length xs - m) (drop m xs)))
  last-rises = part-rises xs m (n - m) (omega (arith, both, pre.0), run_last)

  pub last_same : take (n - m) (take (length xs - m) (drop m xs)) ≡ take (n - m) (drop m xs)
  last_same = part_same xs m (n - m) (omega (arith, both, pre.0), run_last)

  pub added_present : (b : Bool) → Holds (take m xs) x b → b ≡ true → Gathered (length xs) (insert_into x (held n xs)) xs n
  added_present b h t = gathered_as (length xs) (held n xs) (insert_into x (held n xs)) xs n
      (insert_same x (held n xs) (held-rising n xs) (subst (λ (l : List ℕ). x ∈ l) (sym is_held) (add_all_in x (take (n - m) (drop m xs)) (take m xs) (inr (h.is t)))))
      (gathered_held xs n pre.0 pre.1)

  module _ (b : Bool) (h : Holds (take m xs) x b) (f : b ≡ false) (out : List ℕ) (t : ℕ) (s : Behind xs m (n - m) x out t) where
    abbrev new : List ℕ
    new = insert_into x (take (n - m) (drop m xs))

    abbrev all : List ℕ
    all = insert_into x (held n xs)

    is_all : all ≡ add_all new (take m xs)
    is_all = ap (insert_into x) is_held ∙ insert_union x (take m xs) (take (n - m) (drop m xs)) run_first

    new_apart : (y : ℕ) → y ∈ take m xs → y ∈ new → ⊥
    new_apart y i j = ⊎_elim (λ (q : y ≡ x). h.not f (subst (λ (z : ℕ). z ∈ take m xs) q i)) (λ k. run_split.apart y i k) (in_insert x y (take (n - m) (drop m xs)) j)

    all_long : length all ≡ m + length new
    all_long = ap length is_all ∙ union_length (take m xs) new (insert_rising x (take (n - m) (drop m xs)) run_last) new_apart
        ∙ ap (λ (i : ℕ). i + length new) (length-take-le m xs (omega (arith, pre.0, both)))

    counted : m + t ≡ size (length xs) all
    counted = go (dec_le (length new) (length xs - m))
      where
        go : Dec (length new ≤ length xs - m) → m + t ≡ size (length xs) all
        go (yes k) = let c : t ≡ length new = s.count ∙ size_fits (length xs - m) new k in omega (arith, size_fits (length xs) all (omega (arith, all_long, both, pre.0)), all_long)
        go (no k) = let c : t ≡ length xs - m + 1 = s.count ∙ size-over (length xs - m) new (omega (arith, k)) in
            omega (arith, size-over (length xs) all (omega (arith, all_long, k, both, pre.0)), both, pre.0)

    fits : length all ≤ length xs → m + t ≤ length xs
    fits k = omega (arith, counted, size_fits (length xs) all k)

    new_split : m + t ≤ length xs → Split m t out
    new_split k = record {
      first = subst Rising (sym s.first) run_first;
      last = subst Rising (sym (s.last k)) (insert_rising x (take (n - m) (drop m xs)) run_last);
      apart = λ y i j. new_apart y (subst (λ (l : List ℕ). y ∈ l) s.first i) (subst (λ (l : List ℕ). y ∈ l) (s.last k) j);
    }

    new_held : m + t ≤ length xs → held (m + t) out ≡ all
    new_held k = held-split m t out (new_split k) ∙ ap₂ add_all (s.last k) s.first ∙ sym is_all

    -- the second run is not full
    pub added_behind : t < 256 → Gathered (length xs) (insert_into x (held n xs)) out (m + t)
    added_behind k =
        let q : first_run (m + t) ≡ m = ap (λ (i : ℕ). first_run (i + t)) e ∙ run_kept n t k ∙ sym e in
        let d : m + t - m ≡ t = omega arith in
        record {
          count = counted;
          words = λ g. new_held (fits g);
          runs = λ g. record { split = subst (λ (i : ℕ). Split i (m + t - i) out) (sym q) (subst (λ (i : ℕ). Split m i out) (sym d) (new_split (fits g))) };
          long = s.long;
        }

    -- there was no room
    pub added_over : length out < m + t → Gathered (length xs) (insert_into x (held n xs)) out (m + t)
    added_over k = record {
      count = counted;
      words = λ g. absurd (let r = fits g in omega (arith, s.long));
      runs = λ g. absurd (let r = fits g in omega (arith, s.long));
      long = s.long;
    }

    -- the second run is full and is merged into the first
    pub full-split : m + t ≤ length out → Split m t out
    full-split k = new_split (omega (arith, s.long))

    pub added_merged : (ys : List ℕ) → m + t ≤ length out → Settled out (m + t) ys → Gathered (length xs) (insert_into x (held n xs)) ys (m + t)
    added_merged ys k d =
        let w : take (m + t) ys ≡ all = d.words ∙ new_held (omega (arith, s.long)) in
        let r : Rising (take (m + t) ys) = subst Rising (sym d.words) (held-rising (m + t) out) in
        record { count = counted; words = λ g. rising_held (m + t) ys r ∙ w; runs = λ g. rising-runs (m + t) ys r; long = d.long ∙ s.long }

  pub settled_both : (out : List ℕ) → Settled xs (m + (n - m)) out → Settled xs n out
  settled_both out s = subst (λ (i : ℕ). Settled xs i out) both s

pub ruleset adding = (holds_is, part_fits, part-rises, behind, run_split, run_first, run_last, added_present, added_behind, added_over, added_merged, full-split, settled_both, rules)
