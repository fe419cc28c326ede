-- Document 02's facts of holding, keeping and releasing. Assumes nothing.
use Rattle.std.specs.Prelude.{Ok}
use mathlib.Core.Path.{◌≡◌, refl, sym, ap, ap₂, ◌∙◌}
use mathlib.Core.Bool.{true, false, ◌&&◌, and-true}
use mathlib.Core.Logic.{◌↔◌, ◌⊎◌, inl, inr, ⊎_elim}
use mathlib.Core.List.{List, [], ◌∷◌, ◌++◌, map, map-append}
use Prim.Native.Nat.{ℕ, ◌+◌, ◌<◌}
use native.Mathlib.Nat.{zero-add}
use native.Mathlib.Omega.{arith}
use lib.Dec.{eqb, ltb}
use lib.ListN.{set, drop}
use lib.Seq.{get_or-set_same, get_or-set_other, drop-set-lt, drop-drop}
use borrow.Author.Tests.{eqb-true, eq-eqb, ltb-true, ltb-false, lt-ltb, le-ltb, le-leb}
use Rattle.sets.specs.Lists.{◌∈◌, every, up_from, tabulate, below}
use Rattle.sets.proofs.Tests.{dec, same?, both_true}
use Rattle.sets.proofs.Lists.{some_in, in_some, each_every, in_below, up_from-add, up_from_ext, every_append}
use Rattle.program.specs.declared.Program.{Program}
use Rattle.program.specs.Clauses.{Clause, Row, row_at, rows, standing, is_equal, is_equal_row}
use Rattle.program.specs.Held.{held_clause, held_row, in_place, nothing_held, holding, released}
use Rattle.program.specs.Names.{names_of}
use Rattle.program.specs.Valid.{zero_from, is_clause, clauses_valid, days_fit, days_valid, valid, Sized}
use Rattle.program.proofs.Validity.{equal_is, equal_self, valid_parts, valid_from, valid_clauses, valid_days, valid_held, released_valid, released_same}
use Rattle.program.proofs.Validity.{HeldParts, held_fits, held_nothing, held_used, held_unused}
use Rattle.program.proofs.Chosen.{standing_rows}
use Rattle.held.specs.declared.ClearStatus.TheVariants as clears
use Rattle.held.specs.Holding.{day_held, held_as, stands, hold_refusal, hold_of}
use Rattle.held.specs.Clearing.{kept, clearing, cleared_of, keep_of, release_of, KeptBehind}
use Rattle.held.proofs.Laws.{takes, hold_taken, hold_refused, clear_done, clear_nothing}

-- ---- equal clauses
-- "says whether an equal clause stands already", and "equal clauses have equal days too": whether the row is one of those that stand
pub stands_exactly : (r : Row) (rs : List Row) → (stands r rs ≡ true) ↔ (r ∈ rs)
unfolding stands
stands_exactly r rs = (
  λ h. let s = some_in (is_equal_row r) rs h in rw (equal_row r s.0 s.2) s.1,
  λ m. in_some (is_equal_row r) rs r m (equal_row_self r),
)
  where
    equal_row : (r s : Row) → is_equal_row r s ≡ true → r ≡ s
    equal_row r s h =
        let t = both_true (is_equal r.clause s.clause && eqb r.first s.first) (eqb r.last s.last) h in
        let u = both_true (is_equal r.clause s.clause) (eqb r.first s.first) t.0 in
        rw (equal_is r.clause s.clause u.0, eqb-true r.first s.first u.1, eqb-true r.last s.last t.1)

    equal_row_self : (r : Row) → is_equal_row r r ≡ true
    equal_row_self r = rw (equal_self r.clause, eq-eqb r.first r.first refl, eq-eqb r.last r.last refl)

-- ---- the table with the held clause as its last one
-- zeros from one place on are zeros from the next
zero_rest : (ys : List ℕ) → every (eqb 0) ys ≡ true → every (eqb 0) (drop 1 ys) ≡ true
unfolding every
zero_rest [] h = refl
zero_rest (y ∷ ys) h = (both_true (eqb 0 y) (every (eqb 0) ys) h).1

zero_behind : (xs : List ℕ) (k x : ℕ) → zero_from k xs ≡ true → zero_from (k + 1) (set xs k x) ≡ true
unfolding zero_from
zero_behind xs k x z = rw (drop-set-lt (k + 1) xs k x (omega arith), ← drop-drop 1 k xs) (zero_rest (drop k xs) z)

module _ (p : Program) (s : Sized p) (l : p.clause_count < 64) where
  -- the row that was held stands at the first place behind the others, and they stand where they stood
  row_last : row_at (kept p) p.clause_count ≡ held_row p.held
  unfolding kept
  row_last =
      let k = p.clause_count in
      let h = p.held in
      rw (
        get_or-set_same p.heads k h.head 0 (omega (arith, s.heads)),
        get_or-set_same p.bodies k h.body 0 (omega (arith, s.bodies)),
        get_or-set_same p.nafs k h.naf 0 (omega (arith, s.nafs)),
        get_or-set_same p.firsts k h.first 0 (omega (arith, s.firsts)),
        get_or-set_same p.lasts k h.last 0 (omega (arith, s.lasts)),
      )

  row_other : (j : ℕ) → (j ≡ p.clause_count → ⊥) → row_at (kept p) j ≡ row_at p j
  unfolding kept
  row_other j d =
      let k = p.clause_count in
      let h = p.held in
      rw (
        get_or-set_other p.heads k j h.head 0 d,
        get_or-set_other p.bodies k j h.body 0 d,
        get_or-set_other p.nafs k j h.naf 0 d,
        get_or-set_other p.firsts k j h.first 0 d,
        get_or-set_other p.lasts k j h.last 0 d,
      )

  -- "keeps it as the last clause": the rows that stood, and the one that was held behind them
  pub rows_kept : rows (kept p) ≡ rows p ++ (held_row p.held ∷ [])
  unfolding rows kept tabulate up_from
  rows_kept =
      let k = p.clause_count in
      up_from-add (row_at (kept p)) k 1 0
      ∙ ap₂ ◌++◌ (up_from_ext (row_at (kept p)) (row_at p) k 0 (λ j m. row_other j (λ e. omega arith))) (ap (λ (r : Row). r ∷ []) (ap (row_at (kept p)) (zero-add k) ∙ row_last))

  standing_kept : standing (kept p) ≡ standing p ++ (held_clause p.held ∷ [])
  standing_kept =
      standing_rows (kept p) ∙ ap (map (λ r. r.clause)) rows_kept ∙ map-append (λ r. r.clause) (rows p) (held_row p.held ∷ [])
      ∙ ap (λ cs. cs ++ (held_clause p.held ∷ [])) (sym (standing_rows p))

  module _ (v : valid p ≡ true) (t : HeldParts p.dated p.held p.clause_count p.atom_count) where
    ruled_kept : every (is_clause p.atom_count) (standing (kept p)) ≡ true
    unfolding standing every
    ruled_kept =
        ap (every (is_clause p.atom_count)) standing_kept
        ∙ every_append (is_clause p.atom_count) (standing p) (held_clause p.held ∷ []) (valid_clauses p v).ruled (rw t.clause)

    clauses_kept : clauses_valid (kept p).heads (kept p).bodies (kept p).nafs (p.clause_count + 1) p.atom_count ≡ true
    unfolding clauses_valid kept standing
    clauses_kept =
        let k = p.clause_count in
        let c = valid_clauses p v in
        rw (
          le-leb (k + 1) 64 (omega arith),
          ruled_kept,
          zero_behind p.heads k p.held.head c.no_heads,
          zero_behind p.bodies k p.held.body c.no_bodies,
          zero_behind p.nafs k p.held.naf c.no_nafs,
        )

    days_kept : days_valid p.dated (kept p).firsts (kept p).lasts (p.clause_count + 1) ≡ true
    unfolding days_valid
    days_kept = each_every _ (below 64) (λ j m. fits j (in_below 64 j m) (same? j p.clause_count))
      where
        more : (j : ℕ) → (j ≡ p.clause_count → ⊥) → ltb j (p.clause_count + 1) ≡ ltb j p.clause_count
        more j d = ⊎_elim
            (λ e. lt-ltb j (p.clause_count + 1) (omega (arith, ltb-true j p.clause_count e)) ∙ sym e)
            (λ e. le-ltb j (p.clause_count + 1) (omega (arith, d, ltb-false j p.clause_count e)) ∙ sym e)
            (dec (ltb j p.clause_count))

        fits : (j : ℕ) → j < 64 → (j ≡ p.clause_count) ⊎ (j ≡ p.clause_count → ⊥)
            → days_fit (p.dated && ltb j (p.clause_count + 1)) (row_at (kept p) j).first (row_at (kept p) j).last ≡ true
        fits j h (inl e) =
            let k = p.clause_count in
            ap (λ i. days_fit (p.dated && ltb i (k + 1)) (row_at (kept p) i).first (row_at (kept p) i).last) e
            ∙ ap (λ (r : Row). days_fit (p.dated && ltb k (k + 1)) r.first r.last) row_last
            ∙ rw (lt-ltb k (k + 1) (omega arith), and-true p.dated) t.days
        fits j h (inr d) =
            ap (λ (r : Row). days_fit (p.dated && ltb j (p.clause_count + 1)) r.first r.last) (row_other j d)
            ∙ rw (more j d) (valid_days p v j h)

    valid_kept : valid (kept p) ≡ true
    unfolding kept
    valid_kept = valid_from (kept p) (record {
      names = (valid_parts p v).names;
      clauses = clauses_kept;
      days = days_kept;
      held = held_unused p.dated nothing_held (p.clause_count + 1) p.atom_count refl;
    })

-- a valid table with a row in its place that may be held
holding_valid : (p : Program) (r : Row) → valid p ≡ true → HeldParts p.dated (in_place r) p.clause_count p.atom_count → valid (holding p (in_place r)) ≡ true
unfolding holding
holding_valid p r v t =
    let s = valid_parts p v in
    valid_from (holding p (in_place r)) (record { names = s.names; clauses = s.clauses; days = s.days; held = held_used p.dated (in_place r) p.clause_count p.atom_count refl t })

kept_bare : (p : Program) → (kept p).held ≡ nothing_held
unfolding kept
kept_bare p = refl

-- ==== the facts

-- What hold gives for a valid table is valid.
pub hold_valid : (p : Program) (c : Clause) (f l : ℕ) → valid p ≡ true → valid (hold_of p c f l).program ≡ true
hold_valid p c f l v = ⊎_elim
    (λ z. let t = takes p c f l z in
    ap (λ a. valid a.program) (hold_taken p c f l z) ∙ holding_valid p (held_as p c f l) v (record { clause = t.clause; room = t.room; days = t.days }))
    (λ d. ap (λ a. valid a.program) (hold_refused p c f l d) ∙ v)
    (same? (hold_refusal p c f l) 0)

-- "On an undated table the days given are passed over"
pub days_passed_over : (p : Program) (c : Clause) (f l : ℕ) → p.dated ≡ false → hold_of p c f l ≡ hold_of p c 0 0
unfolding hold_of hold_refusal day_held
days_passed_over p c f l u = rw u

-- What keep gives for a valid table is valid, with nothing held.
pub keep_valid : (p : Program) → Sized p → valid p ≡ true → (valid (keep_of p).program ≡ true) × ((keep_of p).program.held ≡ nothing_held)
unfolding keep_of
keep_valid p s v =
    ⊎_elim
    (λ u. let t = held_fits p.dated p.held p.clause_count p.atom_count (valid_held p v) u in
    let g = clear_done p (kept p) v u in
    (ap (λ a. valid a.program) g ∙ valid_kept p s t.room v t, ap (λ a. a.program.held) g ∙ kept_bare p))
    (λ u. let g = clear_nothing p (kept p) v u in
    (ap (λ a. valid a.program) g ∙ v, ap (λ a. a.program.held) g ∙ held_nothing p.dated p.held p.clause_count p.atom_count (valid_held p v) u))
    (dec p.held.in_use)

-- What release gives for a valid table is that table with nothing held, and valid.
pub release-gives : (p : Program) → valid p ≡ true → (release_of p).program ≡ released p
unfolding release_of
release-gives p v =
    ⊎_elim
    (λ u. ap (λ a. a.program) (clear_done p (released p) v u))
    (λ u. ap (λ a. a.program) (clear_nothing p (released p) v u) ∙ sym (released_same p v u))
    (dec p.held.in_use)

pub release_valid : (p : Program) → valid p ≡ true → valid (release_of p).program ≡ true
release_valid p v = ap valid (release-gives p v) ∙ released_valid p v

-- "With nothing held, these two give the table back and say so."
pub nothing_to_clear : (p : Program) → valid p ≡ true → p.held.in_use ≡ false → (keep_of p ≡ clearing (Ok clears.NothingHeld) p) × (release_of p ≡ clearing (Ok clears.NothingHeld) p)
unfolding keep_of release_of
nothing_to_clear p v u = (clear_nothing p (kept p) v u, clear_nothing p (released p) v u)

-- a clause that hold took
module _ (p : Program) (c : Clause) (f l : ℕ) (z : hold_refusal p c f l ≡ 0) where
  abbrev with : Program
  with = holding p (in_place (held_as p c f l))

  -- what keep or release gives then
  cleared_to : (r : Program) → cleared_of with r ≡ clearing (Ok clears.Cleared) r
  unfolding holding
  cleared_to r =
      let t = takes p c f l z in
      clear_done with r (holding_valid p (held_as p c f l) t.accepted (record { clause = t.clause; room = t.room; days = t.days })) refl

  keeps : keep_of (hold_of p c f l).program ≡ clearing (Ok clears.Cleared) (kept with)
  unfolding keep_of
  keeps = ap (λ a. keep_of a.program) (hold_taken p c f l z) ∙ cleared_to (kept with)

  releases : release_of (hold_of p c f l).program ≡ clearing (Ok clears.Cleared) (released with)
  unfolding release_of
  releases = ap (λ a. release_of a.program) (hold_taken p c f l z) ∙ cleared_to (released with)

  rows_with : Sized p → rows (kept with) ≡ rows p ++ (held_as p c f l ∷ [])
  unfolding holding rows
  rows_with s = rows_kept with (record { names = s.names; heads = s.heads; bodies = s.bodies; nafs = s.nafs; firsts = s.firsts; lasts = s.lasts; days = s.days }) (takes p c f l z).room

  atoms_with : (kept with).atom_count ≡ p.atom_count
  unfolding holding kept
  atoms_with = refl

  names_with : names_of (kept with) ≡ names_of p
  unfolding holding kept names_of
  names_with = refl

  dated_with : (kept with).dated ≡ p.dated
  unfolding holding kept
  dated_with = refl

  -- "A second call keeps it as the last clause": hold and then keep give the same names, dated as before, the rows that stood and that one behind them, and nothing held.
  pub hold_then_keep : Sized p → KeptBehind p (held_as p c f l) (keep_of (hold_of p c f l).program)
  hold_then_keep s = record {
    status = ap (λ a. a.status) keeps;
    atoms = ap (λ a. a.program.atom_count) keeps ∙ atoms_with;
    names = ap (λ a. names_of a.program) keeps ∙ names_with;
    dating = ap (λ a. a.program.dated) keeps ∙ dated_with;
    all_rows = ap (λ a. rows a.program) keeps ∙ rows_with s;
    nothing = ap (λ a. a.program.held) keeps ∙ kept_bare with;
  }

  -- "and a third lets it go": hold and then release give the table that came.
  pub hold_then_release : release_of (hold_of p c f l).program ≡ clearing (Ok clears.Cleared) p
  unfolding released holding
  hold_then_release =
      let t = takes p c f l z in
      let e : released with ≡ p = released_same p t.accepted t.free in
      releases ∙ ap (clearing (Ok clears.Cleared)) e
