-- What each way to leave one of the three calls says. Assumes nothing.
use Rattle.program.specs.declared.Refusal.{Refusal}
use Rattle.program.specs.declared.Refusal.TheVariants.{InvalidProgram}
use Rattle.std.specs.Prelude.{Ok, Err}
use mathlib.Core.Path.{◌≡◌, refl, sym, ap, ◌∙◌}
use mathlib.Core.Bool.{Bool, true, false, cond, not, ◌&&◌}
use mathlib.Core.Logic.{⊎_elim}
use mathlib.Core.List.{List, [], ◌∷◌}
use Prim.Native.Nat.{ℕ, ◌+◌, ◌≤◌, ◌<◌}
use native.Mathlib.Omega.{arith}
use lib.Dec.{eqb, ltb}
use lib.ListN.{set}
use borrow.Author.Tests.{eq-eqb, ne_eqb, eqb-false, ltb-false}
use Rattle.sets.proofs.Tests.{clash, same?, via_true, via_false}
use Rattle.sets.proofs.Lists.{Lacks, lacks_hit, lacks_none}
use Rattle.program.specs.declared.HeldClause.{HeldClause}
use Rattle.program.specs.declared.Program.{Program}
use Rattle.program.specs.Clauses.{Clause, clause_of, Row, row_at, rows, is_equal_row}
use Rattle.program.specs.Held.{held_row, in_place, nothing_held, holding, released}
use Rattle.program.specs.Refusals.{lowest, verdict_of, refusal_of, numbered, number}
use Rattle.program.specs.Valid.{is_clause, days_fit, valid}
use Rattle.program.proofs.Lowest.{not_both, number_some, refusal_is}
use Rattle.program.proofs.Validity.{valid_clauses, valid_held, held_fits, days_fit_lem}
use Rattle.held.specs.declared.HoldStatus.TheVariants as holds
use Rattle.held.specs.declared.ClearStatus.TheVariants as clears
use Rattle.held.specs.declared.ClearAnswer.{ClearAnswer}
use Rattle.held.specs.Holding.{day_held, held_as, stands, hold_refusal, answer, hold_of}
use Rattle.held.specs.Clearing.{kept, clear_refusal, clearing, cleared_of}

-- ---- an equal row
module _ (p : Program) (r : Row) (i : ℕ) (s : Lacks (row_at p) p.clause_count (is_equal_row r) 0 i) where
  pub stands_hit : i < p.clause_count → is_equal_row r (row_at p i) ≡ true → true ≡ stands r (rows p)
  unfolding stands rows
  stands_hit h t = lacks_hit (row_at p) p.clause_count (is_equal_row r) i s h t

  pub stands_none : p.clause_count ≤ i → false ≡ stands r (rows p)
  unfolding stands rows
  stands_none h = lacks_none (row_at p) p.clause_count (is_equal_row r) i s h

-- ---- the days that are held
pub place_is : (p : Program) (h b n f l : ℕ) {x y : ℕ} → x ≡ day_held p f → y ≡ day_held p l
    → record { in_use = true; head = h; body = b; naf = n; first = x; last = y } ≡ in_place (held_as p (clause_of h b n) f l)
place_is p h b n f l d e = rw (d, e)

-- ---- the held clause as the last one
pub kept_is : (p : Program) (n : ℕ) (hs bs ns fs ls : List ℕ) (h : HeldClause)
    → n ≡ p.clause_count + 1
    → hs ≡ set p.heads p.clause_count p.held.head
    → bs ≡ set p.bodies p.clause_count p.held.body
    → ns ≡ set p.nafs p.clause_count p.held.naf
    → fs ≡ set p.firsts p.clause_count p.held.first
    → ls ≡ set p.lasts p.clause_count p.held.last
    → h ≡ nothing_held
    → record {
      atom_count = p.atom_count;
      atom_names = p.atom_names;
      clause_count = n;
      heads = hs;
      bodies = bs;
      nafs = ns;
      dated = p.dated;
      firsts = fs;
      lasts = ls;
      held = h;
    } ≡ kept p
unfolding kept
kept_is p n hs bs ns fs ls h a b c d f g e = rw (a, b, c, d, f, g, e)

-- ---- the refusal of hold: one law for each number
module _ (p : Program) (c : Clause) (f l : ℕ) where
  pub refuses_nine : valid p ≡ false → 9 ≡ hold_refusal p c f l
  unfolding hold_refusal lowest
  refuses_nine v = rw v

  pub refuses_sixteen : valid p ≡ true → p.held.in_use ≡ true → 16 ≡ hold_refusal p c f l
  unfolding hold_refusal lowest
  refuses_sixteen v h = rw (v, h)

  pub refuses_seventeen : valid p ≡ true → p.held.in_use ≡ false → is_clause p.atom_count c ≡ false → 17 ≡ hold_refusal p c f l
  unfolding hold_refusal lowest
  refuses_seventeen v h i = rw (v, h, i)

  pub refuses_eighteen : valid p ≡ true → p.held.in_use ≡ false → is_clause p.atom_count c ≡ true → p.clause_count ≡ 64 → 18 ≡ hold_refusal p c f l
  unfolding hold_refusal lowest
  refuses_eighteen v h i s = rw (v, h, i, eq-eqb p.clause_count 64 s)

  pub refuses_days : valid p ≡ true → p.held.in_use ≡ false → is_clause p.atom_count c ≡ true → (p.clause_count ≡ 64 → ⊥) → p.dated && ltb l f ≡ true
      → 22 ≡ hold_refusal p c f l
  unfolding hold_refusal lowest
  refuses_days v h i s d = rw (v, h, i, ne_eqb p.clause_count 64 s, d)

  pub refuses_none : valid p ≡ true → p.held.in_use ≡ false → is_clause p.atom_count c ≡ true → (p.clause_count ≡ 64 → ⊥) → p.dated && ltb l f ≡ false
      → 0 ≡ hold_refusal p c f l
  unfolding hold_refusal lowest
  refuses_none v h i s d = rw (v, h, i, ne_eqb p.clause_count 64 s, d)

pub ruleset refuses = (
  refuses_nine,
  refuses_sixteen,
  refuses_seventeen,
  refuses_eighteen,
  refuses_days,
  refuses_none,
  via_true,
  via_false,
)

-- ---- what a table, a clause and two days are that hold takes
pub record Takes (p : Program) (c : Clause) (f l : ℕ) : Type 0 where
  pub accepted : valid p ≡ true
  pub free : p.held.in_use ≡ false
  pub clause : is_clause p.atom_count c ≡ true
  pub room : p.clause_count < 64
  pub days : days_fit p.dated (day_held p f) (day_held p l) ≡ true

-- days that 22 passes are held in order, and as 0 where the table is undated
days_held : (p : Program) (f l : ℕ) → p.dated && ltb l f ≡ false → days_fit p.dated (day_held p f) (day_held p l) ≡ true
unfolding day_held
days_held p f l h = go p.dated h
  where
    go : (b : Bool) → b && ltb l f ≡ false → days_fit b (cond b f 0) (cond b l 0) ≡ true
    go true h = days_fit_lem true f l (ltb-false l f h) (λ e. clash true refl e)
    go false h = days_fit_lem false 0 0 (omega arith) (λ e. refl)

pub takes : (p : Program) (c : Clause) (f l : ℕ) → hold_refusal p c f l ≡ 0 → Takes p c f l
unfolding hold_refusal lowest
takes p c f l z =
    let t = go (valid p) p.held.in_use (is_clause p.atom_count c) (eqb p.clause_count 64) (p.dated && ltb l f) z in
    record {
      accepted = t.0;
      free = t.1;
      clause = t.2;
      room = omega (arith, eqb-false p.clause_count 64 t.3, (valid_clauses p t.0).short);
      days = days_held p f l t.4;
    }
  where
    go : (v h i s d : Bool) → lowest ((9, not v) ∷ (16, h) ∷ (17, not i) ∷ (18, s) ∷ (22, d) ∷ []) ≡ 0
        → (v ≡ true) × (h ≡ false) × (i ≡ true) × (s ≡ false) × (d ≡ false)
    go true false true false false e = (refl, refl, refl, refl, refl)
    go true false true false true e = absurd (omega arith)
    go true false true true d e = absurd (omega arith)
    go true false false s d e = absurd (omega arith)
    go true true i s d e = absurd (omega arith)
    go false h i s d e = absurd (omega arith)

-- ---- what hold gives where its number is 0, and where not
module _ (p : Program) (c : Clause) (f l : ℕ) where
  pub hold_taken : hold_refusal p c f l ≡ 0 → hold_of p c f l ≡ answer (Ok (cond (stands (held_as p c f l) (rows p)) holds.Equal holds.New)) (holding p (in_place (held_as p c f l)))
  unfolding hold_of
  hold_taken z = rw (eq-eqb (hold_refusal p c f l) 0 z)

  pub hold-accepted : hold_refusal p c f l ≡ 0 → verdict_of (hold_of p c f l).status ≡ Ok tt
  hold-accepted z = ap (λ a. verdict_of a.status) (hold_taken z)

  pub hold_refused : (hold_refusal p c f l ≡ 0 → ⊥) → hold_of p c f l ≡ answer (Err (refusal_of (hold_refusal p c f l))) p
  unfolding hold_of
  hold_refused d = rw (ne_eqb (hold_refusal p c f l) 0 d)

  -- a clause that is taken is refused by no number
  pub hold_zero : verdict_of (hold_of p c f l).status ≡ Ok tt → hold_refusal p c f l ≡ 0
  hold_zero t = ⊎_elim (λ z. z) (λ d. not_both t (ap (λ a. verdict_of a.status) (hold_refused d))) (same? (hold_refusal p c f l) 0)

-- the same as the code comes to it
pub gives_refused : (p : Program) (c : Clause) (f l : ℕ) (r : Refusal) → number r ≡ hold_refusal p c f l → answer (Err r) p ≡ hold_of p c f l
gives_refused p c f l r e = sym (hold_refused p c f l (λ z. number_some r (e ∙ z)) ∙ ap (λ (q : Refusal). answer (Err q) p) (refusal_is r (hold_refusal p c f l) e))

module _ (p : Program) (c : Clause) (f l : ℕ) (z : 0 ≡ hold_refusal p c f l) where
  pub hold-few : p.clause_count ≤ 64
  hold-few = (valid_clauses p (takes p c f l (sym z)).accepted).short

  module _ (h : HeldClause) (a : h ≡ in_place (held_as p c f l)) (q : Program) (g : q ≡ holding p h) (s : Bool) (t : s ≡ stands (held_row h) (rows p)) where
    gives_taken : (b : Bool) → s ≡ b → answer (Ok (cond b holds.Equal holds.New)) q ≡ hold_of p c f l
    gives_taken b u = rw (g, ← u, t, a) (sym (hold_taken p c f l (sym z)))

    pub gives-equal : s ≡ true → answer (Ok holds.Equal) q ≡ hold_of p c f l
    gives-equal u = gives_taken true u

    pub gives_new : s ≡ false → answer (Ok holds.New) q ≡ hold_of p c f l
    gives_new u = gives_taken false u

-- ---- the answers of keep and release
pub keep_room : (p : Program) → valid p ≡ true → p.held.in_use ≡ true → p.clause_count < 64
keep_room p v u = (held_fits p.dated p.held p.clause_count p.atom_count (valid_held p v) u).room

module _ (p q : Program) where
  clear_taken : clear_refusal p ≡ 0 → cleared_of p q ≡ cond p.held.in_use (clearing (Ok clears.Cleared) q) (clearing (Ok clears.NothingHeld) p)
  unfolding cleared_of
  clear_taken z = rw (eq-eqb (clear_refusal p) 0 z)

  pub clear_accepted : clear_refusal p ≡ 0 → verdict_of (cleared_of p q).status ≡ Ok tt
  clear_accepted z = ap (λ a. verdict_of a.status) (clear_taken z) ∙ go p.held.in_use
    where
      go : (b : Bool) → verdict_of (cond b (clearing (Ok clears.Cleared) q) (clearing (Ok clears.NothingHeld) p)).status ≡ Ok tt
      go true = refl
      go false = refl

  pub clear_refused : (clear_refusal p ≡ 0 → ⊥) → cleared_of p q ≡ clearing (Err (refusal_of (clear_refusal p))) p
  unfolding cleared_of
  clear_refused d = rw (ne_eqb (clear_refusal p) 0 d)

  pub clear_done : valid p ≡ true → p.held.in_use ≡ true → cleared_of p q ≡ clearing (Ok clears.Cleared) q
  unfolding clear_refusal lowest
  clear_done v u = clear_taken (rw v) ∙ rw u

  pub clear_nothing : valid p ≡ true → p.held.in_use ≡ false → cleared_of p q ≡ clearing (Ok clears.NothingHeld) p
  unfolding clear_refusal lowest
  clear_nothing v u = clear_taken (rw v) ∙ rw u

-- the same as the code of both comes to it
module _ (p q : Program) (r : ClearAnswer) where
  pub clears_nine : valid p ≡ false → r ≡ clearing (Err InvalidProgram) p → r ≡ cleared_of p q
  unfolding cleared_of clear_refusal lowest numbered
  clears_nine v e = e ∙ rw v

  pub clears_held : (s : Program) → valid p ≡ true → p.held.in_use ≡ true → s ≡ q → r ≡ clearing (Ok clears.Cleared) s → r ≡ cleared_of p q
  clears_held s v u f e = e ∙ ap (clearing (Ok clears.Cleared)) f ∙ sym (clear_done p q v u)

  pub clears_nothing : valid p ≡ true → p.held.in_use ≡ false → r ≡ clearing (Ok clears.NothingHeld) p → r ≡ cleared_of p q
  clears_nothing v u e = e ∙ sym (clear_nothing p q v u)

pub released_is : (p s : Program) (h : HeldClause) → h ≡ nothing_held → s ≡ holding p h → s ≡ released p
unfolding released
released_is p s h g f = f ∙ ap (holding p) g
