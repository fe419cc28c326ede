-- A held clause is passed over: what a call weighs of a table are its names and clauses, and these do not change where what it holds is let go. Assumes nothing.
use mathlib.Core.Path.{◌≡◌, refl, sym, ◌∙◌}
use mathlib.Core.Logic.{inl}
use mathlib.Core.Bool.{true}
use mathlib.Core.List.{List}
use Prim.Native.Nat.{ℕ}
use Rattle.program.specs.declared.Program.{Program}
use Rattle.program.specs.Clauses.{rows}
use Rattle.program.specs.Days.{clauses}
use Rattle.program.specs.Held.{holding, released}
use Rattle.program.specs.Names.{names_of}
use Rattle.program.specs.Valid.{valid}
use Rattle.program.proofs.Validity.{released_valid}
use Rattle.text.specs.Render.{render, numbers_of}
use Rattle.text.specs.Writing as writing
use Rattle.stable.specs.Check as checking
use Rattle.stable.proofs.Answers.{answered}
use Rattle.summary.specs.Summary as summing
use Rattle.tree.specs.Answer as searching
use Rattle.vocabulary.specs.Vocabulary.{vocabulary}
use Rattle.fix_answer.specs.Answer as fixing
use Rattle.demands.specs.Demand1.{read, write, check, summarize, search, fixpoint, hold, keep, release, told}
use Rattle.demands.specs.PassedOver.{handed, without, PassedOver}

-- ---- what a call weighs of a table
module _ (p : Program) where
  texts_same : render (released p) ≡ render p
  unfolding render numbers_of names_of rows released holding
  texts_same = refl

  rows_same : rows (released p) ≡ rows p
  unfolding rows released holding
  rows_same = refl

  clauses_same : (d : ℕ) → clauses (released p) d ≡ clauses p d
  unfolding clauses rows released holding
  clauses_same d = refl

  atoms_same : (released p).atom_count ≡ p.atom_count
  unfolding released holding
  atoms_same = refl

-- ---- the answers on a valid table, and on that table with nothing held
module _ (p : Program) (v : valid p ≡ true) where
  u : valid (released p) ≡ true
  u = released_valid p v

  write_same : (out : List ℕ) → (writing.answer_of (released p) out ≡ writing.answer_of p out) × (writing.exit_of (released p) out ≡ writing.exit_of p out)
  unfolding writing.answer_of writing.exit_of writing.write_refusal
  write_same out = (rw (u, v, texts_same p), rw (u, v, texts_same p))

  check_same : (d w : ℕ) → checking.answer_of (released p) d w ≡ checking.answer_of p d w
  unfolding checking.answer_of checking.refusal released holding
  check_same d w = rw (u, v, rows_same p, clauses_same p d, atoms_same p)

  sum_same : (ws : List ℕ) → summing.summary_of (released p) ws ≡ summing.summary_of p ws
  unfolding summing.summary_of summing.refusal
  sum_same ws = rw (u, v, atoms_same p)

  search_same : (d A : ℕ) (l : List ℕ) → (searching.answer_of (released p) d A l ≡ searching.answer_of p d A l) × (searching.exit_of (released p) d A l ≡ searching.exit_of p d A l)
  unfolding searching.answer_of searching.exit_of searching.refusal
  search_same d A l = (rw (u, v, clauses_same p d, atoms_same p), rw (u, v, clauses_same p d, atoms_same p))

  fix_same : (d : ℕ) (l w x : List ℕ) → (fixing.answer_of (released p) d l w x ≡ fixing.answer_of p d l w x) × (fixing.exit_of (released p) d l w x ≡ fixing.exit_of p d l w x)
  unfolding fixing.answer_of fixing.exit_of fixing.refusal fixing.found fixing.transform_of vocabulary
  fix_same d l w x = (rw (u, v, clauses_same p d, atoms_same p), rw (u, v, clauses_same p d, atoms_same p))

-- Document 02, U5: "Every other call passes over a held clause."
pub passed_over : PassedOver
unfolding told handed without
passed_over (read b r) h = (λ e. e, λ e. e)
passed_over (write p o r) h =
    let s = write_same p (h p (inl refl)) o.entry in (
      λ e. record { answer = e.answer ∙ sym s.0; slice = e.slice ∙ sym s.1 },
      λ e. record { answer = e.answer ∙ s.0; slice = e.slice ∙ s.1 },
    )
passed_over (check p d w r) h =
    let s = check_same p (h p (inl refl)) d w in
    (λ e. answered (released p) d w r (e.answer ∙ sym s), λ e. answered p d w r (e.answer ∙ s))
passed_over (summarize p ws r) h =
    let s = sum_same p (h p (inl refl)) ws in
    (λ e. e ∙ sym s, λ e. e ∙ s)
passed_over (search p d A l r) h =
    let s = search_same p (h p (inl refl)) d A l.entry in (
      λ e. record { says = e.says ∙ sym s.0; lists = e.lists ∙ sym s.1 },
      λ e. record { says = e.says ∙ s.0; lists = e.lists ∙ s.1 },
    )
passed_over (fixpoint p d l w x r) h =
    let s = fix_same p (h p (inl refl)) d l.entry w.entry x.entry in (
      λ e. record { says = e.says ∙ sym s.0; lists = e.lists ∙ sym s.1; first_length = e.first_length; second_length = e.second_length },
      λ e. record { says = e.says ∙ s.0; lists = e.lists ∙ s.1; first_length = e.first_length; second_length = e.second_length },
    )
passed_over (hold p c f l r) h = (λ e. e, λ e. e)
passed_over (keep p r) h = (λ e. e, λ e. e)
passed_over (release p r) h = (λ e. e, λ e. e)
