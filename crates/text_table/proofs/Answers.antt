-- The parts of a text that none of the first six refusals meets, and one law for each way to answer. Assumes nothing.
use Rattle.program.proofs.Lowest.{refusal_is, number_some}
use Rattle.program.specs.declared.Refusal.TheVariants.{ClauseBroken, OnlyZeros, DaysReversed}
use Rattle.program.specs.declared.Refusal.{Refusal}
use Rattle.std.specs.Prelude.{Ok, Err}
use mathlib.Core.Path.{◌≡◌, refl, sym, ap, ◌∙◌}
use mathlib.Core.Bool.{Bool, true, false}
use mathlib.Core.List.{List, [], ◌∷◌}
use Prim.Native.Nat.{ℕ, ◌+◌, ◌≤◌}
use native.Mathlib.Omega.{arith}
use lib.ListN.{length, take, replicate}
use Rattle.sets.specs.Lists.{every}
use Rattle.lists.specs.Bytes.{pieces, padded, CountOf}
use Rattle.lists.proofs.Pieces.{length-pieces}
use Rattle.program.specs.Held.{nothing_held}
use Rattle.program.specs.Names.{is_name}
use Rattle.program.specs.Refusals.{lowest, number}
use Rattle.program.specs.declared.HeldClause.{HeldClause}
use Rattle.program.specs.declared.Program.{Program}
use Rattle.text.specs.Lines.{HasLine, is_dated, names}
use Rattle.text.specs.Tables.{placed, table_of, zero_table}
use Rattle.text.specs.Refusals.{clause_broken, opening_refusal, refusal}
use Rattle.text.specs.Reading.{Read, program_of, refused_with, read_of}
use Rattle.text.proofs.Fits.{early, late, opened}
use Rattle.text.proofs.RoundTrip.{taken, refused}
use Rattle.namesline.specs.NamesLine.{NamesEnd}
use Rattle.clauselines.specs.declared.ClauseLines.{ClauseLines}
use Rattle.clauselines.specs.Gathered.{clauses_of}
use Rattle.clauselines.proofs.Reading.{broken_is, clauses_said}

pub none : (b : List ℕ) → 0 ≡ opening_refusal b → opening_refusal b ≡ 0
none b e = sym e

-- ---- the names
module _ (b : List ℕ) (z : opening_refusal b ≡ 0) where
  pub has_line : HasLine b
  has_line = (opened b z).line

  module _ (e : ℕ) (q : NamesEnd b e) where
    pub each_named : every is_name (pieces 32 (take e b)) ≡ true
    each_named = ap (every is_name) (sym q.items) ∙ (opened b z).named

    pub few_named : length (pieces 32 (take e b)) ≤ 12
    few_named = omega (arith, ap length q.items, (opened b z).few)

module _ (b : List ℕ) (e : ℕ) (q : NamesEnd b e) where
  pub names-counted : (n : ℕ) → CountOf 32 (take e b) n → n + 1 ≡ length (names b)
  names-counted n c = omega (arith, c.is, length-pieces 32 (take e b), ap length q.items)

  pub names_put : (out : List ℕ) → out ≡ padded 96 (placed (pieces 32 (take e b))) → out ≡ padded 96 (placed (names b))
  names_put out f = f ∙ ap (λ (l : List (List ℕ)). padded 96 (placed l)) (sym q.items)

-- ---- the answers
-- the answer of a refusal, for a caller that writes the record out
pub zero_is : {R : Type 0} (q : R) (u : HeldClause) → u ≡ nothing_held
    → record {
      verdict = Err q;
      program = record {
        atom_count = 0;
        atom_names = replicate 96 0;
        clause_count = 0;
        heads = replicate 64 0;
        bodies = replicate 64 0;
        nafs = replicate 64 0;
        dated = false;
        firsts = replicate 64 0;
        lasts = replicate 64 0;
        held = u;
      };
    } ≡ refused_with q
unfolding zero_table
zero_is q u e = rw e

module _ (b : List ℕ) (r : Read) where
  -- a refusal that is the lowest
  by_number : (q : Refusal) → refusal b ≡ number q → r ≡ refused_with q → r ≡ read_of b
  by_number q e g = g ∙ ap refused_with (sym (refusal_is q (refusal b) (sym e))) ∙ sym (refused b (λ z. number_some q (sym e ∙ z))).0

  pub read-early : (q : Refusal) → number q ≡ opening_refusal b → r ≡ refused_with q → r ≡ read_of b
  read-early q e g = by_number q (early b (λ z. number_some q (e ∙ z)) ∙ sym e) g

module _ (b : List ℕ) (z : opening_refusal b ≡ 0) (c : ClauseLines) (e : c ≡ clauses_of b) where
  pub breaks_or_not : (t : Bool) → c.broken ≡ t → clause_broken b ≡ t
  breaks_or_not t h = sym (broken_is b z) ∙ ap (λ l. l.broken) (sym e) ∙ h

  pub read_seven : (r : Read) → c.broken ≡ true → r ≡ refused_with ClauseBroken → r ≡ read_of b
  unfolding lowest
  read_seven r h g = by_number b r ClauseBroken (late b z ∙ rw (breaks_or_not true h)) g

  -- the refusal where no line breaks the form
  behind_seven : c.broken ≡ false → (t u : Bool) → c.zeros ≡ t → c.reversed ≡ u → refusal b ≡ lowest ((8, t) ∷ (22, u) ∷ [])
  unfolding lowest
  behind_seven h t u k l =
      let s = clauses_said b z (breaks_or_not false h) in
      late b z ∙ rw (breaks_or_not false h, ← ap (λ l. l.zeros) s, ← ap (λ l. l.reversed) s, ← e, k, l)

  pub read_eight : (r : Read) → c.broken ≡ false → c.zeros ≡ true → r ≡ refused_with OnlyZeros → r ≡ read_of b
  unfolding lowest
  read_eight r h k g = by_number b r OnlyZeros (behind_seven h true c.reversed k refl) g

  pub read_reversed : (r : Read) → c.broken ≡ false → c.zeros ≡ false → c.reversed ≡ true → r ≡ refused_with DaysReversed → r ≡ read_of b
  unfolding lowest
  read_reversed r h k l g = by_number b r DaysReversed (behind_seven h false true k l) g

  pub read_table : (p : Program) → c.broken ≡ false → c.zeros ≡ false → c.reversed ≡ false → p ≡ program_of b → record { verdict = Ok tt; program = p } ≡ read_of b
  unfolding lowest
  read_table p h k l g = rw g (sym (taken b (behind_seven h false false k l)))

  pub table_is : (n : ℕ) (dated : Bool) (nm : List ℕ) (u : HeldClause) → clause_broken b ≡ false → n ≡ length (names b) → dated ≡ is_dated b → nm ≡ padded 96 (placed (names b))
      → u ≡ nothing_held
      → record {
        atom_count = n;
        atom_names = nm;
        clause_count = c.count;
        heads = c.heads;
        bodies = c.bodies;
        nafs = c.nafs;
        dated = dated;
        firsts = c.firsts;
        lasts = c.lasts;
        held = u;
      } ≡ program_of b
  unfolding program_of table_of
  table_is n dated nm u h f d g k = rw (f, d, g, k, e ∙ clauses_said b z h)
