-- The places of a summary, and its answer. Assumes nothing.
use Rattle.program.specs.declared.Refusal.TheVariants.{InvalidProgram, OutsideWord}
use Rattle.std.specs.Prelude.{Ok, Err}
use mathlib.Core.Path.{◌≡◌, ◌∙◌}
use mathlib.Core.Bool.{Bool, true, false}
use mathlib.Core.List.{List}
use Prim.Native.Nat.{ℕ, ◌≤◌, ◌<◌}
use borrow.Author.Tests.{lt-ltb, le-ltb}
use Rattle.sets.specs.Lists.{every, tabulate}
use Rattle.program.specs.declared.Program.{Program}
use Rattle.program.specs.Values.{is_word}
use Rattle.program.specs.Refusals.{lowest, numbered}
use Rattle.program.specs.Valid.{valid}
use Rattle.summary.specs.declared.Summary.{Summary}
use Rattle.summary.specs.Summary.{occurring_in, shown_at, settled_at, refusal, refused_summary, summary_with, summary_of}

pub shown_in : (n i r : ℕ) (words : List ℕ) → i < n → r ≡ occurring_in words i → r ≡ shown_at n words i
unfolding shown_at
shown_in n i r words h e = e ∙ rw (lt-ltb i n h)

pub shown_out : (n i : ℕ) (words : List ℕ) → n ≤ i → 0 ≡ shown_at n words i
unfolding shown_at
shown_out n i words h = rw (le-ltb i n h)

module _ (p : Program) (words : List ℕ) where
  pub summary9 : (r : Summary) → valid p ≡ false → r ≡ refused_summary InvalidProgram → r ≡ summary_of p words
  unfolding summary_of refusal lowest numbered
  summary9 r v e = e ∙ rw v

  pub summary10 : (r : Summary) → valid p ≡ true → every (is_word p.atom_count) words ≡ false → r ≡ refused_summary OutsideWord → r ≡ summary_of p words
  unfolding summary_of refusal lowest numbered
  summary10 r v w e = e ∙ rw (v, w)

  pub summary_is : (o : List ℕ) (s : List Bool) → valid p ≡ true → every (is_word p.atom_count) words ≡ true
      → o ≡ tabulate (shown_at p.atom_count words) 12 → s ≡ tabulate (settled_at o) 12
      → record { verdict = Ok tt; occurring = o; settled = s } ≡ summary_of p words
  unfolding summary_of refusal lowest summary_with
  summary_is o s v w e f = rw (v, w, f, e)
