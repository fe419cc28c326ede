-- The ways that the fixpoint's routines return, one law for each, with premises that are what tests and callees give. Assumes nothing.
use Rattle.program.specs.declared.Refusal.TheVariants.{TooLittleRoom, InvalidProgram, TooManyMembers}
use Rattle.std.specs.Prelude.{Ok, Err}
use mathlib.Core.Path.{◌≡◌, refl, sym, ap, ap₂, ◌∙◌, subst}
use mathlib.Core.Bool.{Bool, true, false, cond, not}
use mathlib.Core.List.{List}
use Prim.Native.Nat.{ℕ, ◌+◌, ◌*◌, ◌≤◌, ◌<◌, min}
use native.Mathlib.Omega.{arith}
use borrow.Author.Rules.{rules}
use borrow.Author.Tests.{le-leb, lt-leb, lt-ltb, le-ltb, not-true, not-false}
use lib.Dec.{ltb}
use lib.ListN.{length, take, length-replicate}
use lib.Seq.{length-take-le}
use Rattle.sets.specs.Lists.{Each, up_from, tabulate}
use Rattle.sets.proofs.Lists.{length-tabulate, every_each}
use Rattle.program.specs.declared.Program.{Program}
use Rattle.program.specs.Clauses.{Clause, Below, clause_at, standing}
use Rattle.program.specs.Days.{clauses, RowsOfDay}
use Rattle.program.specs.Only.{only_of}
use Rattle.program.specs.Valid.{is_clause, valid}
use Rattle.program.specs.Refusals.{lowest, numbered}
use Rattle.program.proofs.Validity.{valid_clauses, clause_below}
use Rattle.program.proofs.Days.{DayTable, day_table}
use Rattle.operator.specs.Operator.{WordRule, rule_at}
use Rattle.stages.specs.Run.{crowded}
use Rattle.stages.specs.Minimal.{minimal_models, Minimals}
use Rattle.transform.specs.Transform.{kappa_from, members}
use Rattle.emission.specs.Emit.{Emits, Places}
use Rattle.rewriting.specs.Rewriting.{ClausesOver}
use Rattle.vocabulary.specs.Vocabulary.{literals_of, vocabulary}
use Rattle.vocabulary.proofs.Counting.{names-few, clauses-few, column_fits, of_day_lem}
use Rattle.transform.specs.Listing.{parts_of, listing}
use Rattle.program.specs.declared.Outcome.TheVariants.{Complete, Full}
use Rattle.parts.specs.Overwriting.{overwrite, Overwrites}
use Rattle.fix_answer.specs.Answer.{FixpointAnswer, listed, refused, run_answer, run_exit, Answered, kappa, transform_of, found, room_of, refusal, answer_of}
use Rattle.fix_answer.specs.Answer.{exit_of, Fixes}
use Rattle.fix_answer.proofs.Size.{program_short}

-- ---- the answer's two counts
pub listed_all : (count places : ℕ) → count ≤ places → record { outcome = Ok Complete; written = count } ≡ listed count places
unfolding listed
listed_all count places h = let e : count ≡ min count places = omega arith in rw (le-leb count places h) (ap (λ (w : ℕ). record { outcome = Ok Complete; written = w }) e)

pub listed_some : (count places : ℕ) → places < count → record { outcome = Ok Full; written = places } ≡ listed count places
unfolding listed
listed_some count places h = let e : places ≡ min count places = omega arith in rw (lt-leb count places h) (ap (λ (w : ℕ). record { outcome = Ok Full; written = w }) e)

pub refused_is : {R : Type 0} (r : R) → record { outcome = Err r; written = 0 } ≡ refused r
unfolding refused
refused_is r = refl

-- ---- over a positive program, with working slices of one length
module _ (Q : List WordRule) (room n : ℕ) (first second : List ℕ) (d : Minimals Q room n first second) where
  pub first_fits : n ≤ room → n ≤ length first
  first_fits h = omega (arith, d.first_length)

  pub second_fits : n ≤ room → n ≤ length second
  second_fits h = omega (arith, d.second_length)

  pub refused-crowded : (m : ℕ) (xs : List ℕ) (r : FixpointAnswer) → room < n → r ≡ refused TooLittleRoom → Answered m Q room xs xs r
  unfolding run_answer run_exit
  refused-crowded m xs r h e = go (crowded Q room) refl
    where
      go : (c : Bool) → crowded Q room ≡ c → Answered m Q room xs xs r
      go true c = record { answer = e ∙ rw c; exit = rw c }
      go false c = absurd (omega (arith, d.fits c))

  pub answered : (m : ℕ) (xs out : List ℕ) (k : ℕ) (r : FixpointAnswer) → Overwrites (parts_of m (take n first)) xs out k → r ≡ listed k (length out)
      → length out ≡ length xs → n ≤ room → Answered m Q room xs out r
  unfolding run_answer run_exit listing
  answered m xs out k r g a l h = go (crowded Q room) refl
    where
      go : (c : Bool) → crowded Q room ≡ c → Answered m Q room xs out r
      go true c = absurd (omega (arith, d.count ∙ ap (λ (x : Bool). cond x (room + 1) (length (minimal_models Q))) c))
      go false c =
          let f : parts_of m (take n first) ≡ listing m Q = ap (parts_of m) (d.words c) in
          record { answer = a ∙ ap₂ listed (g.count ∙ ap length f) l ∙ rw c; exit = g.exit ∙ ap (overwrite xs) f ∙ rw c }

-- ---- with any two: the first s places of both, where s is the shorter length
module _ (xs ys : List ℕ) (s : ℕ) (e : s ≡ min (length xs) (length ys)) where
  first_part : length (take s xs) ≡ s
  first_part = length-take-le s xs (omega (arith, e))

  second_part : length (take s ys) ≡ s
  second_part = length-take-le s ys (omega (arith, e))

  pub first_there : s ≡ length (take s xs)
  first_there = sym first_part

  pub second_there : s ≡ length (take s ys)
  second_there = sym second_part

  pub one_length : length (take s ys) ≡ length (take s xs)
  one_length = second_part ∙ sym first_part

  pub evened : (m : ℕ) (Q : List WordRule) (ms out : List ℕ) (r : FixpointAnswer) → Answered m Q (length (take s xs)) ms out r → Answered m Q (min (length xs) (length ys)) ms out r
  evened m Q ms out r d = subst (λ (k : ℕ). Answered m Q k ms out r) (first_part ∙ e) d

-- ---- over a valid table all of whose clauses count
-- its clauses, as they stand in its three columns
abbrev columns : Program → List Clause
columns p = tabulate (clause_at p.heads p.bodies p.nafs) p.clause_count

module _ (p : Program) (v : valid p ≡ true) where
  columns_below : Each (Below (literals_of p)) (columns p)
  columns_below c i = clause_below p.atom_count c (every_each (is_clause p.atom_count) (columns p) (valid_clauses p v).ruled c i)

  module _ (m : ℕ) (e : m ≡ literals_of p) where
    pub table_over : length p.heads ≡ 64 → length p.bodies ≡ 64 → length p.nafs ≡ 64 → ClausesOver m p.heads p.bodies p.nafs p.clause_count
    table_over hs bs ns = record {
      literals = omega (arith, e, names-few p v);
      few = clauses-few p v;
      heads = column_fits p v p.heads hs;
      bodies = column_fits p v p.bodies bs;
      nafs = column_fits p v p.nafs ns;
      below = subst (λ k. Each (Below k) (columns p)) (sym e) columns_below;
    }

    module _ (w : members (literals_of p) (standing p) ≤ 64) where
      pub table_fits : members m (columns p) ≤ 64
      unfolding standing
      table_fits = subst (λ k. members k (columns p) ≤ 64) (sym e) w

      short : length (kappa_from m (m + m) (columns p)) ≤ 1120
      short = program_short m _ (subst (λ k. Each (Below k) (columns p)) (sym e) columns_below)
          (let l = length-tabulate (clause_at p.heads p.bodies p.nafs) p.clause_count in omega (arith, clauses-few p v)) table_fits

      pub table_room : (xs ys : List ℕ) → length xs ≡ 1120 → length ys ≡ 1120 → Places (kappa_from m (m + m) (columns p)) xs ys 0
      table_room xs ys a b = record { heads = omega (arith, short); bodies = omega (arith, short) }

      module _ (xs ys xs' ys' : List ℕ) (n : ℕ) (g : Emits (kappa_from m (m + m) (columns p)) xs ys 0 xs' ys' n) where
        pub heads_there : length xs ≡ 1120 → n ≤ length xs'
        heads_there a = omega (arith, short, g.count, g.heads)

        pub bodies_there : length ys ≡ 1120 → n ≤ length ys'
        bodies_there b = omega (arith, short, g.count, g.bodies)

    pub table_answered : (xs ys xs' ys' : List ℕ) (n room : ℕ) (ms out : List ℕ) (r : FixpointAnswer)
        → Emits (kappa_from m (m + m) (columns p)) xs ys 0 xs' ys' n
        → Answered m (tabulate (rule_at xs' ys') n) room ms out r → Answered (literals_of p) (kappa (literals_of p) (standing p)) room ms out r
    unfolding standing tabulate up_from
    table_answered xs ys xs' ys' n room ms out r g d = subst (λ k. Answered k (kappa k (columns p)) room ms out r) e
        (subst (λ (Q : List WordRule). Answered m Q room ms out r) g.rules d)

-- ---- over any table, on a day
pub is_table : (p : Program) (b : Bool) → b ≡ valid p → not b ≡ false → valid p ≡ true
is_table p b e h = sym e ∙ not-false b h

-- the table of the day's clauses
module _ (p : Program) (d : ℕ) (b : Bool) (is : b ≡ valid p) (s : ℕ) (gathered : RowsOfDay p d s) (q : Program) (only : q ≡ only_of p s) where
  the_day : not b ≡ false → DayTable p d q
  the_day h = rw only (day_table p d s (is_table p b is h) gathered)

  pub day_valid : not b ≡ false → valid q ≡ true
  day_valid h = (the_day h).is_valid_lem

pub few-members : (q : Program) (n : ℕ) → n ≡ members (literals_of q) (standing q) → n ≤ 64 → members (literals_of q) (standing q) ≤ 64
few-members q n e h = omega arith

module _ (p : Program) (d : ℕ) (l₀ w₀ v₀ w v : List ℕ) (b : Bool) (is : b ≡ valid p) where
  pub no_table : (r : FixpointAnswer) → not b ≡ true → r ≡ refused InvalidProgram → length w ≡ length w₀ → length v ≡ length v₀ → Fixes p d l₀ w₀ v₀ r l₀ w v
  unfolding answer_of exit_of refusal lowest numbered
  no_table r h q lw lv = let f : valid p ≡ false = sym is ∙ not-true b h in record { says = q ∙ rw f; lists = rw f; first_length = lw; second_length = lv }

  module _ (s : ℕ) (gathered : RowsOfDay p d s) (q : Program) (only : q ≡ only_of p s) (n : ℕ) (counts : n ≡ members (literals_of q) (standing q)) where
    counted : not b ≡ false → n ≡ vocabulary p d
    counted h = counts ∙ of_day_lem p d q (the_day p d b is s gathered q only h)

    pub too_many : (r : FixpointAnswer) → not b ≡ false → 64 < n → r ≡ refused TooManyMembers → length w ≡ length w₀ → length v ≡ length v₀ → Fixes p d l₀ w₀ v₀ r l₀ w v
    unfolding answer_of exit_of refusal lowest numbered
    too_many r h m e lw lv =
        let t = is_table p b is h in
        let f : ltb 64 (vocabulary p d) ≡ true = lt-ltb 64 (vocabulary p d) (omega (arith, counted h)) in
        record { says = e ∙ rw (t, f); lists = rw (t, f); first_length = lw; second_length = lv }

    -- what is listed of the day's table is listed of the clauses of the day
    of_the_day : (r : FixpointAnswer) (l : List ℕ) → not b ≡ false → Answered (literals_of q) (kappa (literals_of q) (standing q)) (room_of w₀ v₀) l₀ l r
        → Answered (literals_of p) (transform_of p d) (room_of w₀ v₀) l₀ l r
    unfolding transform_of
    of_the_day r l h g =
        let t = the_day p d b is s gathered q only h in
        subst (λ (k : ℕ). Answered (2 * k) (kappa (2 * k) (clauses p d)) (room_of w₀ v₀) l₀ l r) t.atoms
        (subst (λ (C : List Clause). Answered (literals_of q) (kappa (literals_of q) C) (room_of w₀ v₀) l₀ l r) t.standing_are g)

    pub fixed : (r : FixpointAnswer) (l : List ℕ) → Answered (literals_of q) (kappa (literals_of q) (standing q)) (room_of w₀ v₀) l₀ l r
        → not b ≡ false → n ≤ 64 → length w ≡ length w₀ → length v ≡ length v₀ → Fixes p d l₀ w₀ v₀ r l w v
    unfolding answer_of exit_of refusal lowest numbered found run_answer run_exit
    fixed r l a h m lw lv = go (crowded (transform_of p d) (room_of w₀ v₀)) refl
      where
        t : valid p ≡ true
        t = is_table p b is h

        f : ltb 64 (vocabulary p d) ≡ false
        f = le-ltb 64 (vocabulary p d) (omega (arith, counted h))

        g : Answered (literals_of p) (transform_of p d) (room_of w₀ v₀) l₀ l r
        g = of_the_day r l h a

        go : (c : Bool) → crowded (transform_of p d) (room_of w₀ v₀) ≡ c → Fixes p d l₀ w₀ v₀ r l w v
        go true c = record { says = rw c at g.answer ∙ rw (t, f, c); lists = rw c at g.exit ∙ rw (t, f, c); first_length = lw; second_length = lv }
        go false c = record { says = rw c at g.answer ∙ rw (t, f, c); lists = rw c at g.exit ∙ rw (t, f, c); first_length = lw; second_length = lv }

-- what `search` is handed where the transform of a table is put out
pub ruleset tables = (names-few, clauses-few, column_fits, table_over, table_fits, table_room, heads_there, bodies_there, length-replicate, table_answered, rules)

-- and for the table that came and the day's table, both of them valid
pub ruleset valid-tables = (is_table, day_valid, few-members)
