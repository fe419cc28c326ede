-- A set that grows in the first places of a slice. Assumes nothing.
use Prim.Native.Nat.{ℕ, ◌+◌, ◌-◌, ◌≤◌, ◌<◌}
use lib.ListN.{length, take}
use mathlib.Core.List.{List, [], ◌++◌}
use mathlib.Core.Path.{◌≡◌, refl, sym, ap, ◌∙◌, subst}
use native.Mathlib.Decide.{dec_le}
use native.Mathlib.Omega.{arith}
use Rattle.sets.specs.Lists.{Rising}
use Rattle.rising.proofs.Runs.{gather-rising, held-runs, run_both, rising-split, split-length}
use Rattle.rising.proofs.RisingSets.{add_all_++, add_all-longer, add_all-rising, nothing-rises}
use Rattle.rising.proofs.Slices.{size_fits, size-over}
use Rattle.rising.specs.Growing.{Grown, held, first_run, Runs, Gathered, Settled}
use Rattle.rising.specs.RisingSets.{add_all}
use Rattle.rising.specs.Slices.{size}

pub size≤ : (room : ℕ) (m : List ℕ) → size room m ≤ room + 1
size≤ room m = go (dec_le (length m) room)
  where
    go : Dec (length m ≤ room) → size room m ≤ room + 1
    go (yes h) = omega (arith, size_fits room m h)
    go (no n) = omega (arith, size-over room m (omega (arith, n)))

pub size_small : (room : ℕ) (m : List ℕ) → size room m ≤ room → length m ≤ room
size_small room m h = go (dec_le (length m) room)
  where
    go : Dec (length m ≤ room) → length m ≤ room
    go (yes k) = k
    go (no n) = absurd (omega (arith, size-over room m (omega (arith, n))))

pub size_large : (room : ℕ) (m : List ℕ) → room < size room m → room < length m
size_large room m h = go (dec_le (length m) room)
  where
    go : Dec (length m ≤ room) → room < length m
    go (yes k) = absurd (omega (arith, size_fits room m k))
    go (no n) = omega (arith, n)

pub held-rising : (n : ℕ) (xs : List ℕ) → Rising (held n xs)
unfolding held
held-rising n xs = add_all-rising (take n xs) [] nothing-rises

pub held-length : (n : ℕ) (xs : List ℕ) → n ≤ length xs → Runs n xs → length (held n xs) ≡ n
held-length n xs h r =
    let e = run_both n in
    let l : length (held n xs) ≡ first_run n + (n - first_run n) = ap length (held-runs n xs r) ∙ split-length (first_run n) (n - first_run n) xs (omega arith) r.split in
    l ∙ e

pub rising-runs : (n : ℕ) (xs : List ℕ) → Rising (take n xs) → Runs n xs
rising-runs n xs r = record { split = rising-split (first_run n) (n - first_run n) xs (subst (λ (k : ℕ). Rising (take k xs)) (sym (run_both n)) r) }

pub rising_held : (n : ℕ) (xs : List ℕ) → Rising (take n xs) → held n xs ≡ take n xs
unfolding held
rising_held n xs r = gather-rising (take n xs) r

pub no_runs : (xs : List ℕ) → Runs 0 xs
no_runs xs = rising-runs 0 xs nothing-rises

pub held_none : (xs : List ℕ) → held 0 xs ≡ []
unfolding held add_all
held_none xs = refl

-- what is left to put into the n members that are there makes up the set `all`; or it has proved to be too large
pub record Growing (room : ℕ) (all left out : List ℕ) (n : ℕ) : Type 0 where
  pub long : length out ≡ room
  pub most : n ≤ room + 1
  pub runs : n ≤ room → Runs n out
  pub whole : n ≤ room → add_all left (held n out) ≡ all
  pub over : room < n → room < length all

-- nothing was to be put in
pub gathered_held : (xs : List ℕ) (n : ℕ) → n ≤ length xs → Runs n xs → Gathered (length xs) (held n xs) xs n
gathered_held xs n h r = let l = held-length n xs h r in record { count = sym (size_fits (length xs) (held n xs) (omega arith) ∙ l); words = λ k. refl; runs = λ k. r; long = refl }

-- another name for the same set
pub gathered_as : (room : ℕ) (all all' out : List ℕ) (r : ℕ) → all' ≡ all → Gathered room all out r → Gathered room all' out r
gathered_as room all all' out r e g = subst (λ (l : List ℕ). Gathered room l out r) (sym e) g

pub grow_start : (xs left : List ℕ) (n : ℕ) → n ≤ length xs → Runs n xs → Growing (length xs) (add_all left (held n xs)) left xs n
grow_start xs left n h r = record { long = refl; most = omega arith; runs = λ k. r; whole = λ k. refl; over = λ k. absurd (omega arith) }

-- some of what is left is put in by a callee
pub grow_call : (room : ℕ) (all new left rest out out' : List ℕ) (n r : ℕ) → Growing room all left out n → left ≡ new ++ rest → n ≤ room
    → Gathered (length out) (add_all new (held n out)) out' r → Growing room all rest out' r
grow_call room all new left rest out out' n r g e h c =
    let q : length out ≡ room = g.long in
    let count : r ≡ size room (add_all new (held n out)) = c.count ∙ ap (λ (k : ℕ). size k (add_all new (held n out))) q in
    let whole : add_all rest (add_all new (held n out)) ≡ all = sym (add_all_++ new rest (held n out)) ∙ ap (λ (x : List ℕ). add_all x (held n out)) (sym e) ∙ g.whole h in
    record {
      long = c.long ∙ q;
      most = omega (arith, size≤ room (add_all new (held n out)));
      runs = λ k. let f : length (add_all new (held n out)) ≤ room = size_small room (add_all new (held n out)) (omega arith) in c.runs (omega arith);
      whole = λ k. let f : length (add_all new (held n out)) ≤ room = size_small room (add_all new (held n out)) (omega arith) in
          ap (add_all rest) (c.words (omega arith)) ∙ whole;
      over = λ k. let f : room < length (add_all new (held n out)) = size_large room (add_all new (held n out)) (omega arith) in
          omega (arith, add_all-longer rest (add_all new (held n out)), ap length whole);
    }

-- nothing is left to put in
pub grow_done : (room : ℕ) (all left out : List ℕ) (n : ℕ) → Growing room all left out n → left ≡ [] → Gathered room all out n
unfolding add_all
grow_done room all left out n g e = go (dec_le n room)
  where
    go : Dec (n ≤ room) → Gathered room all out n
    go (yes h) =
        let w : held n out ≡ all = ap (λ (x : List ℕ). add_all x (held n out)) (sym e) ∙ g.whole h in
        let l : length all ≡ n = ap length (sym w) ∙ held-length n out (omega (arith, g.long)) (g.runs h) in
        record { count = sym (size_fits room all (omega arith) ∙ l); words = λ k. w; runs = λ k. g.runs h; long = g.long }
    go (no f) =
        let o : room < length all = g.over (omega (arith, f)) in
        record { count = omega (arith, g.most, f, size-over room all o); words = λ k. absurd (omega arith); runs = λ k. absurd (omega arith); long = g.long }

-- one member too many was found
pub grow_over : (room : ℕ) (all left out : List ℕ) (n : ℕ) → Growing room all left out n → room < n → Gathered room all out n
grow_over room all left out n g h =
    let o : room < length all = g.over h in
    record { count = omega (arith, g.most, size-over room all o); words = λ k. absurd (omega arith); runs = λ k. absurd (omega arith); long = g.long }

-- brought into order
pub settled_grown : (room : ℕ) (all xs out : List ℕ) (n : ℕ) → Gathered room all xs n → Settled xs n out → Grown room all out n
settled_grown room all xs out n g s = record { count = g.count; words = λ h. s.words ∙ g.words h; long = s.long ∙ g.long }

-- which is not asked for where there was no room
pub over-grown : (room : ℕ) (all xs : List ℕ) (n : ℕ) → Gathered room all xs n → length xs < n → Grown room all xs n
over-grown room all xs n g h = record {
  count = g.count;
  words = λ k. absurd (let e = size_fits room all k in omega (arith, g.count, g.long));
  long = g.long;
}
