-- Demand 1, call by call: a verdict that is formed from the lowest number says all of it. Assumes nothing.
use Rattle.program.specs.declared.Refusal.{Refusal}
use Rattle.std.specs.Prelude.{Ok, Err}
use mathlib.Core.Path.{◌≡◌, refl, sym, ap, ◌∙◌, subst}
use mathlib.Core.Logic.{◌↔◌, ◌⊎◌, inl, inr, ⊎_elim}
use mathlib.Core.Bool.{Bool, true, false, cond}
use mathlib.Core.List.{List, [], ◌∷◌, ◌++◌, map}
use Prim.Native.Nat.{ℕ, zero, suc}
use lib.Dec.{ltb, leb}
use lib.ListN.{length, take, replicate}
use borrow.Author.Tests.{eq-eqb, ne_eqb}
use Rattle.sets.specs.Lists.{Each}
use Rattle.sets.proofs.Tests.{dec, same?}
use Rattle.sets.proofs.Lists.{each-++}
use Rattle.lists.specs.Bytes.{one_if}
use Rattle.program.specs.declared.HeldClause.{HeldClause}
use Rattle.program.specs.declared.Program.{Program}
use Rattle.program.specs.Clauses.{Clause, Row, rows}
use Rattle.program.specs.Days.{of_day, clauses}
use Rattle.program.specs.Held.{held_clause, released}
use Rattle.program.specs.Valid.{held_valid, valid, Sized}
use Rattle.program.proofs.Validity.{HeldParts, days_parts, days_fit_lem, held_fits, held_nothing, held_used, held_unused, clause_exactly}
use Rattle.program.specs.Refusals.{lowest, Applies, Lowest, number, numbered, refusal_of, verdict_of, Verdict}
use Rattle.program.proofs.Lowest.{rises, none-lowest, lowest_is, one_lowest, not_both, numbers_known, number_of, number_lowest, of_number}
use Rattle.text.specs.Refusals as reading
use Rattle.text.specs.Tables.{zero_table}
use Rattle.text.specs.Writing.{write_refusal, written_length}
use Rattle.text.proofs.RoundTrip as trip
use Rattle.text.proofs.Writings as writings
use Rattle.semantics.specs.Interpretations.{least_smaller}
use Rattle.stable.specs.declared.Checked.TheVariants.{Violated, Smaller, Stable}
use Rattle.stable.specs.Check.{first_violated, verdict}
use Rattle.stable.specs.Check as checking
use Rattle.summary.specs.Summary.{summary_with, refused_summary}
use Rattle.summary.specs.Summary as summing
use Rattle.summary.proofs.Meaning as meaning
use Rattle.held.specs.declared.ClearAnswer.{ClearAnswer}
use Rattle.held.specs.Holding.{hold_refusal}
use Rattle.held.specs.Clearing.{kept, clear_refusals, clear_refusal, cleared_of, keep_of, release_of}
use Rattle.held.proofs.Laws as holds
use Rattle.program.specs.declared.Outcome.TheVariants.{Complete, Full, Spent}
use Rattle.tree.specs.Tree.{hits}
use Rattle.tree.specs.Answer.{answer, leaf_of, nodes_of, overfull, full_at, run_answer}
use Rattle.tree.specs.Answer as searching
use Rattle.fix_answer.specs.Answer.{room_of}
use Rattle.fix_answer.specs.Answer as fixing
use Rattle.demands.specs.Demand1.{Call, read, write, check, summarize, search, fixpoint, hold, keep, release}
use Rattle.demands.specs.Demand1.{Lent, Told, told_back, told, Answers, numbers_of, MayHold, Given, Demand1}

one_refusal : {v : Verdict} {r s : Refusal} → v ≡ Err r → v ≡ Err s → r ≡ s
one_refusal a b = cc

-- ---- a call that accepts where the lowest number is 0, and else is refused by it
module _ (c : Told) (r : rises 0 c.meets ≡ true) (k : numbers_known c.meets ≡ true)
    (zero_accepts : lowest c.meets ≡ 0 → c.verdict ≡ Ok tt) (other_refuses : (lowest c.meets ≡ 0 → ⊥) → c.verdict ≡ Err (refusal_of (lowest c.meets))) where
  number? : (lowest c.meets ≡ 0) ⊎ (lowest c.meets ≡ 0 → ⊥)
  number? = same? (lowest c.meets) 0

  refused_is : (q : Refusal) → (c.verdict ≡ Err q) ↔ Lowest c.meets (number q)
  refused_is q = (
    λ e. ⊎_elim
        (λ z. not_both (zero_accepts z) e)
        (λ d. subst (λ (m : ℕ). Lowest c.meets m) (sym (number_lowest c.meets r k d) ∙ ap number (one_refusal (other_refuses d) e)) (lowest_is c.meets r d))
        number?,
    λ s. ⊎_elim
        (λ z. absurd (none-lowest c.meets r z (number q) s.applies))
        (λ d. other_refuses d ∙ ap (λ (m : ℕ). Err (refusal_of m)) (one_lowest c.meets (lowest c.meets) (number q) (lowest_is c.meets r d) s) ∙ ap Err (of_number q))
        number?,
  )

  known_is : (n : ℕ) → Applies c.meets n → (q : Refusal) × (number q ≡ n)
  known_is n a = (refusal_of n, number_of c.meets k n a)

  accepted_is : (c.verdict ≡ Ok tt) ↔ ((n : ℕ) → Applies c.meets n → ⊥)
  accepted_is = (
    λ e. ⊎_elim (λ z. none-lowest c.meets r z) (λ d. not_both e (other_refuses d)) number?,
    λ f. ⊎_elim (λ z. zero_accepts z) (λ d. absurd (f (lowest c.meets) (lowest_is c.meets r d).applies)) number?,
  )

  -- what is so where the number is not 0 is so where it is refused
  where_refused : {A : Type 0} → ((lowest c.meets ≡ 0 → ⊥) → A) → (q : Refusal) → c.verdict ≡ Err q → A
  where_refused f q e = f (λ z. not_both (zero_accepts z) e)

  answers : ((lowest c.meets ≡ 0 → ⊥) → Each (λ (s : Lent). s.exit ≡ s.entry) c.lent)
      → ((lowest c.meets ≡ 0 → ⊥) → Each (λ (t : Program × Program). t.1 ≡ t.0) c.tables)
      → ((lowest c.meets ≡ 0 → ⊥) → Each (λ x. x ≡ 0) c.shows)
      → Each (λ (s : Lent). length s.exit ≡ length s.entry) c.free → Answers c
  answers u b s f = record { refused = refused_is; known = known_is; accepted = accepted_is; untouched = where_refused u; given_back = where_refused b; nothing = where_refused s; lengths = f }

-- ---- lists of a few members
abbrev Zeros : List ℕ → Type 0
Zeros l = Each (λ (x : ℕ). x ≡ 0) l

abbrev Kept : List Lent → Type 0
Kept l = Each (λ (s : Lent). s.exit ≡ s.entry) l

abbrev Long : List Lent → Type 0
Long l = Each (λ (s : Lent). length s.exit ≡ length s.entry) l

each_more : {A : Type 0} (P : A → Type 0) (x : A) (l : List A) → P x → Each P l → Each P (x ∷ l)
each_more P x l p e y (inl i) = subst P (sym i) p
each_more P x l p e y (inr m) = e y m

zero_more : (n : ℕ) (l : List ℕ) → n ≡ 0 → Zeros l → Zeros (n ∷ l)
zero_more n l z e = each_more (λ (x : ℕ). x ≡ 0) n l z e

zeros : (k : ℕ) → Zeros (replicate k 0)
zeros zero = λ x m. absurd m
zeros (suc k) = zero_more 0 (replicate k 0) refl (zeros k)

zeros_append : (s t : List ℕ) → Zeros s → Zeros t → Zeros (s ++ t)
zeros_append s t a b = each-++ (λ (x : ℕ). x ≡ 0) s t a b

kept_one : (s : Lent) → s.exit ≡ s.entry → Kept (s ∷ [])
kept_one s e = each_more (λ (s : Lent). s.exit ≡ s.entry) s [] e (λ x m. absurd m)

long_two : (s t : Lent) → length s.exit ≡ length s.entry → length t.exit ≡ length t.entry → Long (s ∷ t ∷ [])
long_two s t e f = each_more (λ (s : Lent). length s.exit ≡ length s.entry) s (t ∷ []) e (each_more (λ (s : Lent). length s.exit ≡ length s.entry) t [] f (λ x m. absurd m))

zero_table_lem : Zeros (numbers_of zero_table)
unfolding zero_table
zero_table_lem =
    let z : List ℕ = replicate 64 0 in
    let two = zeros_append z z (zeros 64) (zeros 64) in
    let three = zeros_append z (z ++ z) (zeros 64) two in
    let four = zeros_append z (z ++ (z ++ z)) (zeros 64) three in
    let five = zeros_append z (z ++ (z ++ (z ++ z))) (zeros 64) four in
    let all = zeros_append (replicate 96 0) (z ++ (z ++ (z ++ (z ++ z)))) (zeros 96) five in
    zeros_append (replicate 9 0) (replicate 96 0 ++ (z ++ (z ++ (z ++ (z ++ z))))) (zeros 9) all

-- ---- what is accepted is no refusal
search_accepts : (p : Program) (d A L : ℕ) → verdict_of (run_answer (leaf_of p d) (nodes_of p d) A L).outcome ≡ Ok tt
unfolding run_answer
search_accepts p d A L = go (overfull (leaf_of p d) (nodes_of p d) L A) (ltb A (length (nodes_of p d)))
  where
    found : ℕ
    found = length (hits (leaf_of p d) (take A (nodes_of p d)))

    go : (x y : Bool) → verdict_of (cond x (answer (Ok Full) L (full_at (leaf_of p d) (nodes_of p d) L)) (cond y (answer (Ok Spent) found A) (answer (Ok Complete) found (length (nodes_of p d))))).outcome ≡ Ok tt
    go true y = refl
    go false true = refl
    go false false = refl

-- ---- each call, where its number is 0 and where not
module _ (p : Program) (d w : ℕ) where
  check_zero : checking.refusal p w ≡ 0 → verdict_of (checking.answer_of p d w) ≡ Ok tt
  unfolding checking.answer_of
  check_zero z = rw (eq-eqb (checking.refusal p w) 0 z)

  check_other : (checking.refusal p w ≡ 0 → ⊥) → verdict_of (checking.answer_of p d w) ≡ Err (refusal_of (checking.refusal p w))
  unfolding checking.answer_of
  check_other z = rw (ne_eqb (checking.refusal p w) 0 z)

module _ (p : Program) (d A : ℕ) (l : List ℕ) where
  search_zero : searching.refusal p ≡ 0 → verdict_of (searching.answer_of p d A l).outcome ≡ Ok tt
  unfolding searching.answer_of
  search_zero z = rw (eq-eqb (searching.refusal p) 0 z) (search_accepts p d A (length l))

  search_other : (searching.refusal p ≡ 0 → ⊥) → (searching.answer_of p d A l ≡ answer (Err (refusal_of (searching.refusal p))) 0 0) × (searching.exit_of p d A l ≡ l)
  unfolding searching.answer_of searching.exit_of
  search_other z = (rw (ne_eqb (searching.refusal p) 0 z), rw (ne_eqb (searching.refusal p) 0 z))

module _ (p : Program) (d : ℕ) (l w v : List ℕ) where
  fix_zero : fixing.refusal p d (room_of w v) ≡ 0 → verdict_of (fixing.answer_of p d l w v).outcome ≡ Ok tt
  unfolding fixing.answer_of fixing.listed
  fix_zero z = rw (eq-eqb (fixing.refusal p d (room_of w v)) 0 z)

  fix_other : (fixing.refusal p d (room_of w v) ≡ 0 → ⊥) → (fixing.answer_of p d l w v ≡ fixing.refused (refusal_of (fixing.refusal p d (room_of w v)))) × (fixing.exit_of p d l w v ≡ l)
  unfolding fixing.answer_of fixing.exit_of
  fix_other z = (rw (ne_eqb (fixing.refusal p d (room_of w v)) 0 z), rw (ne_eqb (fixing.refusal p d (room_of w v)) 0 z))

-- ---- hold, keep and release
back_one : (p q : Program) → q ≡ p → Each (λ (t : Program × Program). t.1 ≡ t.0) ((p, q) ∷ [])
back_one p q e = each_more (λ (t : Program × Program). t.1 ≡ t.0) (p, q) [] e (λ x m. absurd m)

-- a call that clears the place: the table q where a clause was held
cleared_call : (p q : Program) (r : ClearAnswer) → r ≡ cleared_of p q → Answers (told_back (r ≡ cleared_of p q) (clear_refusals p) (verdict_of r.status) p r.program)
unfolding rises numbers_known numbered clear_refusal
cleared_call p q r e = answers _ refl refl
    (λ z. ap (λ x. verdict_of x.status) e ∙ holds.clear_accepted p q z)
    (λ d. ap (λ x. verdict_of x.status) (e ∙ holds.clear_refused p q d))
    (λ d x m. absurd m)
    (λ d. back_one p r.program (ap (λ x. x.program) (e ∙ holds.clear_refused p q d)))
    (λ d x m. absurd m) (λ x m. absurd m)

every_call : (c : Call) → (told c).promised → Answers (told c)
unfolding told rises numbers_known numbered reading.refusal write_refusal checking.refusal summing.refusal searching.refusal fixing.refusal fixing.refused summary_with refused_summary hold_refusal clear_refusal keep_of release_of
every_call (read b r) e = answers (told (read b r)) refl refl
    (λ z. ap (λ x. x.verdict) (e ∙ trip.taken b z))
    (λ d. ap (λ x. x.verdict) (e ∙ (trip.refused b d).0))
    (λ d x m. absurd m) (λ d x m. absurd m)
    (λ d. subst (λ x. Zeros (numbers_of x.program)) (sym (e ∙ (trip.refused b d).0)) zero_table_lem)
    (λ x m. absurd m)
every_call (write p o r) e = answers (told (write p o r)) refl refl
    (λ z. ap verdict_of (e.answer ∙ (writings.accepted p o.entry z).0))
    (λ d. ap verdict_of (e.answer ∙ (writings.refused p o.entry d).0))
    (λ d. kept_one o (e.slice ∙ (writings.refused p o.entry d).1))
    (λ d x m. absurd m)
    (λ d. zero_more _ [] (ap written_length (e.answer ∙ (writings.refused p o.entry d).0)) (λ x m. absurd m))
    (λ x m. absurd m)
every_call (check p t w r) e = answers (told (check p t w r)) refl refl
    (λ z. ap verdict_of e.answer ∙ check_zero p t w z)
    (λ d. ap verdict_of e.answer ∙ check_other p t w d)
    (λ d x m. absurd m) (λ d x m. absurd m) (λ d x m. absurd m) (λ x m. absurd m)
every_call (summarize p ws r) e = answers (told (summarize p ws r)) refl refl
    (λ z. ap (λ x. x.verdict) (e ∙ meaning.accepted p ws z))
    (λ d. ap (λ x. x.verdict) (e ∙ meaning.refused p ws d))
    (λ d x m. absurd m) (λ d x m. absurd m)
    (λ d. subst (λ x. Zeros (x.occurring ++ map one_if x.settled)) (sym (e ∙ meaning.refused p ws d)) (zeros_append (replicate 12 0) (map one_if (replicate 12 false)) (zeros 12) (zeros 12)))
    (λ x m. absurd m)
every_call (search p t A l r) e = answers (told (search p t A l r)) refl refl
    (λ z. ap (λ x. verdict_of x.outcome) e.says ∙ search_zero p t A l.entry z)
    (λ d. ap (λ x. verdict_of x.outcome) (e.says ∙ (search_other p t A l.entry d).0))
    (λ d. kept_one l (e.lists ∙ (search_other p t A l.entry d).1))
    (λ d x m. absurd m)
    (λ d. let q = e.says ∙ (search_other p t A l.entry d).0 in
    zero_more r.written (r.visited ∷ []) (ap (λ x. x.written) q) (zero_more r.visited [] (ap (λ x. x.visited) q) (λ x m. absurd m)))
    (λ x m. absurd m)
every_call (fixpoint p t l w v r) e = answers (told (fixpoint p t l w v r)) refl refl
    (λ z. ap (λ x. verdict_of x.outcome) e.says ∙ fix_zero p t l.entry w.entry v.entry z)
    (λ d. ap (λ x. verdict_of x.outcome) (e.says ∙ (fix_other p t l.entry w.entry v.entry d).0))
    (λ d. kept_one l (e.lists ∙ (fix_other p t l.entry w.entry v.entry d).1))
    (λ d x m. absurd m)
    (λ d. zero_more r.written [] (ap (λ x. x.written) (e.says ∙ (fix_other p t l.entry w.entry v.entry d).0)) (λ x m. absurd m))
    (long_two w v e.first_length e.second_length)
every_call (hold p c f l r) e = answers (told (hold p c f l r)) refl refl
    (λ z. ap (λ x. verdict_of x.status) e ∙ holds.hold-accepted p c f l z)
    (λ d. ap (λ x. verdict_of x.status) (e ∙ holds.hold_refused p c f l d))
    (λ d x m. absurd m)
    (λ d. back_one p r.program (ap (λ x. x.program) (e ∙ holds.hold_refused p c f l d)))
    (λ d x m. absurd m) (λ x m. absurd m)
every_call (keep p r) e = cleared_call p (kept p) r e
every_call (release p r) e = cleared_call p (released p) r e

-- ---- what 9 asks
may_hold : (p : Program) → (held_valid p.dated p.held p.clause_count p.atom_count ≡ true) ↔ MayHold p
may_hold p = (
  λ v. record {
    clause = λ u. let f = fits v u in let c = (clause_exactly n (held_clause h)).0 f.clause in (c.0, c.1, f.room);
    days = λ u. let t = days_parts p.dated h.first h.last (fits v u).days in (t.order, t.none);
    nothing = λ u. held_nothing p.dated h count n v u;
  },
  λ m. ⊎_elim
      (λ u. let c = m.clause u in let t = m.days u in held_used p.dated h count n u (record {
        clause = (clause_exactly n (held_clause h)).1 (c.0, c.1);
        room = c.2;
        days = days_fit_lem p.dated h.first h.last t.0 (λ e. (t.1 e).1);
      }))
      (λ u. held_unused p.dated h count n (m.nothing u))
      (dec h.in_use),
)
  where
    h : HeldClause
    h = p.held

    count : ℕ
    count = p.clause_count

    n : ℕ
    n = p.atom_count

    fits : held_valid p.dated h count n ≡ true → h.in_use ≡ true → HeldParts p.dated h count n
    fits v u = held_fits p.dated h count n v u

nine_is : (p : Program) → Sized p → (valid p ≡ true) ↔ (Given (released p) × MayHold p)
nine_is p s = (
  λ v. let t = (trip.valid_exactly p s).0 v in (t.0, (may_hold p).0 t.1),
  λ t. (trip.valid_exactly p s).1 (t.0, (may_hold p).1 t.1),
)

-- Demand 1.
pub demand_1 : Demand1
demand_1 = record { answers = every_call; nine = nine_is; given = trip.given_exactly }
