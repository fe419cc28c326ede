-- What the clause lines say of a text that none of the first six refusals meets: the tests 7, 8 and 22, and the columns of its table. Assumes nothing.
use mathlib.Core.Path.{◌≡◌, refl, sym, ap, ap₂, ◌∙◌}
use mathlib.Core.Bool.{Bool, true, false, cond, not, ◌&&◌, ◌||◌, and-true, and-false}
use mathlib.Core.Logic.{⊎_elim}
use mathlib.Core.List.{List, [], ◌∷◌, map, map-map}
use Prim.Native.Nat.{ℕ, ◌+◌, ◌%◌, ◌≤◌}
use native.Mathlib.Nat.{add-zero}
use native.Mathlib.Omega.{arith}
use lib.Dec.{eqb, ltb}
use lib.ListN.{length, get_or, take, drop, length-map, length-drop}
use lib.Seq.{get_or-drop}
use borrow.Author.Tests.{eqb-true, leb-true, not-false}
use Rattle.sets.specs.Lists.{every, any_of}
use Rattle.sets.proofs.Tests.{dec, both_true}
use Rattle.lists.specs.Bytes.{ended, padded, EndsAt}
use Rattle.program.specs.Clauses.{Row}
use Rattle.program.specs.Values.{head_of, body_of, naf_of, clause_of_values}
use Rattle.text.specs.Lines.{is_dated, names, clause_lines, row}
use Rattle.text.specs.Reading.{row_of_numbers}
use Rattle.text.specs.Refusals.{is_value, is_day, is_row, clause_broken, only_zeros, days_reversed, opening_refusal}
use Rattle.text.proofs.Tests.{both_lines, clause_lines_are}
use Rattle.text.proofs.Fits.{opened}
use Rattle.text_row.specs.declared.ClauseLine.{ClauseLine}
use Rattle.text_row.specs.Rows.{first, row_of, wanted, weighed, line_read}
use Rattle.text_row.proofs.Rows.{first_take, first_front, first_at}
use Rattle.clauselines.specs.declared.ClauseLines.{ClauseLines}
use Rattle.clauselines.specs.Gathered.{gathered, clauses_of}

-- the two days of a line, or none of an undated one
days_are : (ds : List ℕ) → length ds ≤ 2 → is_day (get_or ds 0 0) && is_day (get_or ds 1 0) ≡ every is_day ds
unfolding every
days_are [] h = refl
days_are (x ∷ []) h = refl
days_are (x ∷ y ∷ []) h = ap (λ (t : Bool). is_day x && t) (sym (and-true (is_day y)))
days_are (x ∷ y ∷ z ∷ ds) h = absurd (omega arith)

two_most : (d : Bool) → cond d 2 0 ≤ 2
two_most true = omega arith
two_most false = omega arith

any_of-map : {A B : Type 0} (f : A → B) (q : B → Bool) (xs : List A) → any_of q (map f xs) ≡ any_of (λ x. q (f x)) xs
unfolding any_of
any_of-map f q [] = refl
any_of-map f q (x ∷ xs) = rw (any_of-map f q xs)

any_and : {A : Type 0} (d : Bool) (p : A → Bool) (xs : List A) → any_of (λ x. d && p x) xs ≡ d && any_of p xs
unfolding any_of
any_and true p xs = refl
any_and false p [] = refl
any_and false p (x ∷ xs) = any_and false p xs

module _ (n : ℕ) (few : n ≤ 12) (dated : Bool) where
  -- what the numbers of a line say that holds the form
  unfoldable told : List ℕ → ClauseLine
  told vs = record {
    holds = true;
    zero = every (eqb 0) (take n vs);
    reversed = dated && ltb (get_or vs (n + 1) 0) (get_or vs n 0);
    head = head_of (take n vs);
    body = body_of (take n vs);
    naf = naf_of (take n vs);
    first = get_or vs n 0;
    last = get_or vs (n + 1) 0;
  }

  module _ (vs : List ℕ) where
    -- what was weighed of the first fourteen of them is said of all
    pub record Counted : Type 0 where
      pub values : take n (first 14 vs) ≡ take n vs
      pub day : get_or (first 14 vs) n 0 ≡ get_or vs n 0
      pub day' : get_or (first 14 vs) (n + 1) 0 ≡ get_or vs (n + 1) 0
      pub days : is_day (get_or vs n 0) && is_day (get_or vs (n + 1) 0) ≡ every is_day (drop n vs)

    counted : eqb (length vs) (wanted dated n) ≡ true → Counted
    unfolding wanted
    counted t =
        let e = eqb-true (length vs) (n + cond dated 2 0) t in
        let f = days_are (drop n vs) (omega (arith, length-drop n vs, two_most dated)) in
        record {
          values = first_take n 14 vs (omega arith) ∙ first_front n vs (omega arith);
          day = first_at 14 vs n (omega arith);
          day' = first_at 14 vs (n + 1) (omega arith);
          days = ap₂ (λ (x y : ℕ). is_day x && is_day y) (ap (λ (k : ℕ). get_or vs k 0) (sym (add-zero n)) ∙ sym (get_or-drop n vs 0 0)) (sym (get_or-drop n vs 1 0)) ∙ f;
        }

    row_is : every is_value (take n (first 14 vs)) && (is_day (get_or (first 14 vs) n 0) && is_day (get_or (first 14 vs) (n + 1) 0) && eqb (length vs) (wanted dated n))
        ≡ is_row dated n vs
    unfolding is_row wanted
    row_is = ⊎_elim
        (λ t. let c = counted t in rw (t, c.values, c.day, c.day', and-true, c.days))
        (λ f. rw f (simp and-false))
        (dec (eqb (length vs) (wanted dated n)))

  holds_is : (l : List ℕ) → (line_read dated n l).holds ≡ is_row dated n (row l)
  unfolding line_read weighed row_of
  holds_is l = row_is (row l)

  line_said : (l : List ℕ) → is_row dated n (row l) ≡ true → line_read dated n l ≡ told (row l)
  unfolding line_read weighed row_of told is_row
  line_said l h =
      let vs = row l in
      let a = both_true (eqb (length vs) (n + cond dated 2 0) && every is_value (take n vs)) (every is_day (drop n vs)) h in
      let t = (both_true (eqb (length vs) (n + cond dated 2 0)) (every is_value (take n vs)) a.0).0 in
      let c = counted vs t in
      let d = both_true (is_day (get_or vs n 0)) (is_day (get_or vs (n + 1) 0)) (c.days ∙ a.1) in
      let m : get_or vs n 0 % 65536 ≡ get_or vs n 0 = omega (arith, leb-true (get_or vs n 0) 65535 d.0) in
      let m' : get_or vs (n + 1) 0 % 65536 ≡ get_or vs (n + 1) 0 = omega (arith, leb-true (get_or vs (n + 1) 0) 65535 d.1) in
      rw (row_is vs ∙ h, t, c.values, c.day, c.day', and-true, m, m')

  lines_said : (ls : List (List ℕ)) → every (is_row dated n) (map row ls) ≡ true → map (line_read dated n) ls ≡ map told (map row ls)
  unfolding every
  lines_said [] h = refl
  lines_said (l ∷ ls) h = let a = both_true (is_row dated n (row l)) (every (is_row dated n) (map row ls)) h in rw (line_said l a.0, lines_said ls a.1)

  breaks : (ls : List (List ℕ)) → any_of (λ l. not l.holds) (map (line_read dated n) ls) ≡ not (every (is_row dated n) (map row ls))
  unfolding every any_of
  breaks [] = refl
  breaks (l ∷ ls) = rw (holds_is l, breaks ls) (or_not (is_row dated n (row l)))
    where
      or_not : (t : Bool) → not t || not (every (is_row dated n) (map row ls)) ≡ not (t && every (is_row dated n) (map row ls))
      or_not true = refl
      or_not false = refl

module _ (b : List ℕ) (z : opening_refusal b ≡ 0) where
  pub names-few : (n : ℕ) → n ≡ length (names b) → n ≤ 12
  names-few n e = omega (arith, (opened b z).few)

  pub lines-few : (e : ℕ) → EndsAt b 10 0 e → length (ended 10 (drop (e + 1) b)) ≤ 64
  lines-few e q = omega (arith, (opened b z).many, ap length (both_lines b e (opened b z).line q))

  pub clauses_are : (e n : ℕ) (dated : Bool) (r : ClauseLines) → EndsAt b 10 0 e → n ≡ length (names b) → dated ≡ is_dated b
      → r ≡ gathered (map (line_read dated n) (ended 10 (drop (e + 1) b))) → r ≡ clauses_of b
  unfolding clauses_of
  clauses_are e n dated r q f d g = g ∙ rw (f, d, ← clause_lines_are b e (opened b z).line q)

  -- 7 is said of the rows
  pub broken_is : (clauses_of b).broken ≡ clause_broken b
  unfolding clauses_of gathered clause_broken
  broken_is = breaks (length (names b)) (opened b z).few (is_dated b) (clause_lines b)

  -- where 7 does not apply, 8, 22 and the columns are of the rows too
  abbrev pub rows : List Row
  rows = map (row_of_numbers (length (names b))) (map row (clause_lines b))

  pub clauses_said : clause_broken b ≡ false → clauses_of b ≡ record {
    broken = false;
    zeros = only_zeros b;
    reversed = days_reversed b;
    count = length rows;
    heads = padded 64 (map (λ r. r.clause.head) rows);
    bodies = padded 64 (map (λ r. r.clause.body) rows);
    nafs = padded 64 (map (λ r. r.clause.naf) rows);
    firsts = padded 64 (map (λ r. r.first) rows);
    lasts = padded 64 (map (λ r. r.last) rows);
  }
  unfolding clauses_of gathered clause_broken only_zeros days_reversed told row_of_numbers clause_of_values
  clauses_said h =
      let n = length (names b) in
      let ls = clause_lines b in
      let vss = map row ls in
      let f = (opened b z).few in
      let e = lines_said n f (is_dated b) ls (not-false _ h) in
      let t : any_of (λ l. not l.holds) (map (line_read (is_dated b) n) ls) ≡ false = broken_is ∙ h in
      let said = told n f (is_dated b) in
      let k : length (map said vss) ≡ length (map (row_of_numbers n) vss) = length-map vss said ∙ sym (length-map vss (row_of_numbers n)) in
      rw (
        t,
        e,
        any_of-map said (λ l. l.zero) vss,
        any_of-map said (λ l. l.reversed) vss,
        any_and (is_dated b) (λ vs. ltb (get_or vs (n + 1) 0) (get_or vs n 0)) vss,
        k,
        map-map (λ l. l.head) said vss,
        map-map (λ l. l.body) said vss,
        map-map (λ l. l.naf) said vss,
        map-map (λ l. l.first) said vss,
        map-map (λ l. l.last) said vss,
        map-map (λ r. r.clause.head) (row_of_numbers n) vss,
        map-map (λ r. r.clause.body) (row_of_numbers n) vss,
        map-map (λ r. r.clause.naf) (row_of_numbers n) vss,
        map-map (λ r. r.first) (row_of_numbers n) vss,
        map-map (λ r. r.last) (row_of_numbers n) vss,
      )
