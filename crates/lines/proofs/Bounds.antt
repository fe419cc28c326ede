-- How long a line is: names of up to 8 bytes, numbers of so many digits. Assumes nothing.
use mathlib.Core.Path.{◌≡◌, sym, ap, ◌∙◌}
use mathlib.Core.List.{List, [], ◌∷◌, flat_map}
use Prim.Native.Nat.{ℕ, zero, suc, ◌+◌, ◌*◌, ◌^◌, ◌≤◌, ◌<◌}
use native.Mathlib.Omega.{arith}
use lib.ListN.{length, get_or, length-append}
use lib.Seq.{take-length}
use Rattle.sets.specs.Lists.{up_from, tabulate}
use Rattle.sets.proofs.Lists.{onward_start}
use Rattle.program.specs.Names.{name_at}
use Rattle.decimal.specs.Decimal.{decimal}
use Rattle.decimal.proofs.Laws.{decimal_short}
use Rattle.text.specs.Lines.{names_line, values_line}
use Rattle.lines.specs.Laying.{separator, item}
use Rattle.lines.proofs.Laying.{laid, names_laid, firsts, row_laid}
use Rattle.lines.proofs.Names.{name_most}

-- n pieces of at most b bytes
pub laid_most : (f : ℕ → List ℕ) (n b : ℕ) → ((i : ℕ) → i < n → length (f i) ≤ b) → length (laid f n 0) ≤ b * n
unfolding laid flat_map up_from tabulate
laid_most f n b h = let q = go n 0 (λ j l. h j (omega arith)) in rw (onward_start f n) q
  where
    go : (k i : ℕ) → ((j : ℕ) → j < i + k → length (f j) ≤ b) → length (flat_map (λ t. t) (up_from f k i)) ≤ b * k
    go zero i h = omega arith
    go (suc k) i h =
        let e : b * suc k ≡ b * k + b = omega arith in
        omega (arith, h i (omega arith), go k (suc i) (λ j l. h j (omega arith)), length-append (f i) (flat_map (λ t. t) (up_from f k (suc i))))

-- a line of n items of fewer than b bytes
items-most : (f : ℕ → List ℕ) (n b : ℕ) → ((i : ℕ) → i < n → length (f i) < b) → length (laid (item f n) n 0) ≤ b * n
items-most f n b h = laid_most (item f n) n b (λ i l. omega (arith, h i l, length-append (f i) (separator (i + 1) n ∷ [])))

-- ---- a line of names
pub names-most : (ns : List ℕ) (n : ℕ) → 1 ≤ n → length (names_line (tabulate (name_at ns) n)) ≤ 9 * n
names-most ns n h = rw (names_laid (name_at ns) n h) (items-most (name_at ns) n 9 (λ i l. omega (arith, name_most ns i)))

-- ---- a line of numbers below 10 ^ (k + 1)
pub row-most : (f : ℕ → ℕ) (n k : ℕ) → 1 ≤ n → ((i : ℕ) → i < n → f i < 10 ^ suc k) → length (values_line (tabulate f n)) ≤ (k + 2) * n
row-most f n k h d = rw (row_laid f n h) (items-most (λ i. decimal (f i)) n (k + 2) (λ i l. omega (arith, decimal_short k (f i) (d i l))))

pub values_most : (vs : List ℕ) (k : ℕ) → 1 ≤ length vs → ((i : ℕ) → i < length vs → get_or vs i 0 < 10 ^ suc k) → length (values_line vs) ≤ (k + 2) * length vs
values_most vs k h d =
    let e : vs ≡ tabulate (λ i. get_or vs i 0) (length vs) = sym (take-length vs) ∙ firsts vs (length vs) (omega arith) in
    omega (arith, row-most (λ i. get_or vs i 0) (length vs) k h d, ap (λ (l : List ℕ). length (values_line l)) e)
