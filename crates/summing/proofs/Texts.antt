-- What `summary` prints: the room for it, and that it is the text of the call's answer. Assumes nothing.
use Rattle.std.specs.Prelude.{Ok, Err}
use mathlib.Core.Path.{◌≡◌}
use mathlib.Core.List.{List, ◌++◌}
use Prim.Native.Nat.{ℕ}
use native.Mathlib.Omega.{arith}
use lib.ListN.{take}
use Rattle.sets.specs.Lists.{tabulate}
use Rattle.lists.specs.Bytes.{Wrote}
use Rattle.program.specs.declared.Program.{Program}
use Rattle.program.specs.declared.Refusal.{Refusal}
use Rattle.program.specs.Refusals.{number}
use Rattle.program.specs.Names.{name_at, names_of}
use Rattle.text.specs.Lines.{names_line}
use Rattle.lines.specs.Laying.{Room}
use Rattle.wording.specs.Printed.{refused_line}
use Rattle.summarylines.specs.Summary.{four_lines, flags_line}
use Rattle.summarylines.proofs.Bounds.{summary_most}
use Rattle.summary.specs.declared.Summary.{Summary}
use Rattle.summary.specs.Summary.{summary_of}
use Rattle.tree.specs.Answer.{SearchAnswer, listed, Searches}
use Rattle.printing.specs.Ready.{Ready}
use Rattle.printing.specs.Texts.{unless_refused, allowance, lent}
use Rattle.printing.proofs.Texts.{some_names, few_names}
use Rattle.summing.specs.Texts.{summary_lines, summarized_text, summary_text}

-- ---- the summary
module _ (p : Program) (s : Summary) (xs : List ℕ) where
  abbrev pub summed_text : List ℕ
  summed_text = names_line (tabulate (name_at p.atom_names) p.atom_count) ++ (four_lines s.occurring p.atom_count ++ flags_line s.settled p.atom_count)

  pub summary_fits : Ready p xs → Room p.atom_count 12 summed_text xs
  summary_fits q =
      let r = q.room in
      let o = some_names p xs q in
      let f = few_names p xs q in
      record { some = o; few = f; room = omega (arith, summary_most p.atom_count o f p.atom_names s.occurring s.settled) }

  pub lines_wrote : (r : ℕ) (ys : List ℕ) → Wrote summed_text xs r ys → Wrote (summary_lines p s) xs r ys
  unfolding summary_lines names_of
  lines_wrote r ys w = w

module _ (p : Program) (words : List ℕ) (s : Summary) (e : s ≡ summary_of p words) (xs : List ℕ) (r : ℕ) (ys : List ℕ) where
  pub summed_wrote : s.verdict ≡ Ok tt → Wrote (summary_lines p s) xs r ys → Wrote (summarized_text words p) xs r ys
  unfolding summarized_text unless_refused summary_lines
  summed_wrote t w = rw (← e, t) w

  pub summed_refused : (q : Refusal) (k : ℕ) → s.verdict ≡ Err q → k ≡ number q → Wrote (refused_line k) xs r ys → Wrote (summarized_text words p) xs r ys
  unfolding summarized_text unless_refused summary_lines
  summed_refused q k t n w = rw (← e, t, ← n) w

pub summary_wrote : (p : Program) (d : ℕ) (a : SearchAnswer) (ms : List ℕ) → Searches p d allowance lent a ms → (xs : List ℕ) (r : ℕ) (ys : List ℕ)
    → Wrote (summarized_text (take a.written ms) p) xs r ys → Wrote (summary_text d p) xs r ys
unfolding summary_text listed
summary_wrote p d a ms s xs r ys w = rw (← s.says, ← s.lists) w
