-- Refusal 9: "A table handed to a later call is none that the reader could give."; document 02, U5, says what such a table may hold besides, and U13 what it says of days. Assumes nothing.
use Rattle.std.specs.Prelude.{◌≡◌, Bool, false, cond, not, ◌&&◌, ◌||◌, List, ℕ, ◌*◌, ◌≤◌, eqb, leb, ltb, length, get_or, take, drop}
use Rattle.sets.specs.Lists.{every, tabulate, below}
use Rattle.lists.specs.Bytes.{index, distinct}
use Rattle.program.specs.declared.HeldClause.{HeldClause}
use Rattle.program.specs.declared.Program.{Program}
use Rattle.program.specs.Clauses.{Clause, clause_at, is_empty}
use Rattle.program.specs.Held.{held_clause}
use Rattle.program.specs.Values.{is_word}
use Rattle.program.specs.Names.{is_name, place, name_at, ends_dated}

-- "unused places in it hold zero"
unfoldable pub zero_from : ℕ → List ℕ → Bool
zero_from n xs = every (eqb 0) (drop n xs)

-- a place of eight bytes holds a name, and zeros behind it
unfoldable pub is_place : List ℕ → Bool
is_place xs = is_name (take (index 0 xs) xs) && zero_from (index 0 xs) xs

-- "Names: 1 to 12, .. no two equal", and zeros behind the last
-- document 02, U13: "A book of three names or more whose last two were from and to is now read as dated.", so that no undated table has such names
unfoldable pub names_valid : Bool → List ℕ → ℕ → Bool
names_valid dated xs n =
    leb 1 n && leb n 12
    && (every is_place (tabulate (place xs) n) && distinct (tabulate (place xs) n) && zero_from (8 * n) xs && (dated || not (ends_dated (tabulate (name_at xs) n))))

-- a clause with some bit, and none outside the n names
unfoldable pub is_clause : ℕ → Clause → Bool
is_clause n c = is_word n c.head && is_word n c.body && is_word n c.naf && not (is_empty c)

-- "Clauses: 0 to 64", and zeros behind the last
unfoldable pub clauses_valid : List ℕ → List ℕ → List ℕ → ℕ → ℕ → Bool
clauses_valid hs bs ns count n =
    leb count 64
    && (every (is_clause n) (tabulate (clause_at hs bs ns) count) && zero_from count hs && zero_from count bs && zero_from count ns)

-- document 02, U13: no "first day is after its last"; where a place has no days both are 0
unfoldable pub days_fit : Bool → ℕ → ℕ → Bool
days_fit has f l = leb f l && (has || eqb l 0)

-- the rows of a dated table have days, and no other place has
unfoldable pub days_valid : Bool → List ℕ → List ℕ → ℕ → Bool
unfolding days_fit
days_valid dated fs ls count = every (λ k. days_fit (dated && ltb k count) (get_or fs k 0) (get_or ls k 0)) (below 64)

-- document 02, U5: "a table may hold a clause if that clause is neither empty nor outside the names and fewer than 64 stand"; where none is held the place is zero
-- U13: "A held clause of a dated table carries its two days, which 9 wants in order"
unfoldable pub held_valid : Bool → HeldClause → ℕ → ℕ → Bool
unfolding days_fit
held_valid dated h count n =
    cond h.in_use (is_clause n (held_clause h) && ltb count 64 && days_fit dated h.first h.last) (is_empty (held_clause h) && days_fit false h.first h.last)

-- the table is one that the reader could give, but for a clause that it may hold
unfoldable pub valid : Program → Bool
valid p =
    names_valid p.dated p.atom_names p.atom_count
    && clauses_valid p.heads p.bodies p.nafs p.clause_count p.atom_count
    && days_valid p.dated p.firsts p.lasts p.clause_count
    && held_valid p.dated p.held p.clause_count p.atom_count

-- the lengths of a table's arrays, and that its days are 16-bit numbers, which its type gives
pub record Sized (p : Program) : Type 0 where
  pub names : length p.atom_names ≡ 96
  pub heads : length p.heads ≡ 64
  pub bodies : length p.bodies ≡ 64
  pub nafs : length p.nafs ≡ 64
  pub firsts : length p.firsts ≡ 64
  pub lasts : length p.lasts ≡ 64
  pub days : (k : ℕ) → (get_or p.firsts k 0 ≤ 65535) × (get_or p.lasts k 0 ≤ 65535)
