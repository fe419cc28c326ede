-- The ways that a word comes to its text: the book is refused or read, and the command is one of the seven. Assumes nothing.
use Rattle.std.specs.Prelude.{Ok, Err}
use mathlib.Core.Path.{◌≡◌, refl, sym, ap, ◌∙◌}
use mathlib.Core.List.{List, []}
use Prim.Native.Nat.{ℕ, ◌≤◌, ◌<◌}
use native.Mathlib.Omega.{arith}
use lib.ListN.{length, drop, length-append}
use lib.Seq.{length-take-le}
use borrow.Author.Tests.{le-leb, lt-leb}
use Rattle.lists.specs.Bytes.{Wrote}
use Rattle.program.specs.declared.Program.{Program}
use Rattle.program.specs.Clauses.{clause_of}
use Rattle.program.specs.declared.Refusal.{Refusal}
use Rattle.program.specs.Refusals.{number}
use Rattle.text.specs.Reading.{Read, read_of}
use Rattle.text.specs.Render.{render}
use Rattle.text.proofs.RoundTrip.{read_valid}
use Rattle.wording.specs.Printed.{refused_line}
use Rattle.printing.specs.Ready.{most_bytes, Ready}
use Rattle.printing.specs.Texts.{unless_refused, lent_list, allowance}
use Rattle.checking.specs.Texts.{check_text}
use Rattle.searching.specs.Texts.{search_text}
use Rattle.say_fixed.specs.Texts.{work_slice, fixpoint_text}
use Rattle.summing.specs.Texts.{summary_text}
use Rattle.holding.specs.Texts.{hold_text, keep_text}
use Rattle.say_words.specs.declared.Command.{Command}
use Rattle.say_words.specs.declared.Command.TheVariants as command
use Rattle.say_words.specs.Printing.{printed, Prints}
use Rattle.say_words.specs.Commands.{text_of, output, report_command, report_of}

-- ---- a slice without room, and one with room
module _ (t xs : List ℕ) where
  pub no_room : length xs < most_bytes → Prints t xs 0 xs
  no_room h = record { size = rw (lt-leb most_bytes (length xs) h); whole = rw (lt-leb most_bytes (length xs) h); within = omega arith; part = refl }

  prints : (r : ℕ) (ys : List ℕ) → most_bytes ≤ length xs → Wrote t xs r ys → Prints t xs r ys
  prints r ys h w =
      let l : r ≤ length ys = omega (arith, w.size, ap length w.whole, length-append t (drop (length t) xs)) in
      record {
        size = w.size ∙ rw (le-leb most_bytes (length xs) h);
        whole = w.whole ∙ rw (le-leb most_bytes (length xs) h);
        within = l;
        part = sym (length-take-le r ys l);
      }

-- ---- the text was read
module _ (b : List ℕ) (d : Read) (e : d ≡ read_of b) (xs : List ℕ) (h : most_bytes ≤ length xs) where
  pub read-ready : d.verdict ≡ Ok tt → Ready d.program xs
  read-ready t = record { accepted = rw e (read_valid b (ap (λ (x : Read). x.verdict) (sym e) ∙ t)); room = h }

  module _ (t : ℕ) (k : Command) (ns bs : List ℕ) (r : ℕ) (ys : List ℕ) where
    pub run_read : d.verdict ≡ Ok tt → Wrote (text_of t k ns bs d.program) xs r ys → Prints (output t k ns bs b) xs r ys
    unfolding output printed unless_refused
    run_read a w = prints (output t k ns bs b) xs r ys h (rw (← e, a) w)

    pub run_refused : (q : Refusal) (j : ℕ) → d.verdict ≡ Err q → j ≡ number q → Wrote (refused_line j) xs r ys → Prints (output t k ns bs b) xs r ys
    unfolding output printed unless_refused
    run_refused q j a n w = prints (output t k ns bs b) xs r ys h (rw (← e, a, ← n) w)

-- ---- each command has its text
module _ (t : ℕ) (k : Command) (ns bs : List ℕ) (p : Program) (xs : List ℕ) (r : ℕ) (ys : List ℕ) where
  pub is-check : (w : ℕ) → k ≡ command.Check w → Wrote (check_text t w p) xs r ys → Wrote (text_of t k ns bs p) xs r ys
  unfolding text_of
  is-check w e h = rw e h

  pub is-search : (A places : ℕ) → k ≡ command.Search A places → Wrote (search_text t A (lent_list places) p) xs r ys → Wrote (text_of t k ns bs p) xs r ys
  unfolding text_of
  is-search A places e h = rw e h

  pub is-fixpoint : (places capacity : ℕ) → k ≡ command.Fixpoint places capacity
      → Wrote (fixpoint_text t (lent_list places) (work_slice capacity) (work_slice capacity) p) xs r ys → Wrote (text_of t k ns bs p) xs r ys
  unfolding text_of
  is-fixpoint places capacity e h = rw e h

  pub is_summary : k ≡ command.Summary → Wrote (summary_text t p) xs r ys → Wrote (text_of t k ns bs p) xs r ys
  unfolding text_of
  is_summary e h = rw e h

  pub is-write : k ≡ command.Write → Wrote (render p) xs r ys → Wrote (text_of t k ns bs p) xs r ys
  unfolding text_of
  is-write e h = rw e h

  pub is-hold : (d b n f l : ℕ) → k ≡ command.Hold d b n f l → Wrote (hold_text (clause_of d b n) f l p) xs r ys → Wrote (text_of t k ns bs p) xs r ys
  unfolding text_of
  is-hold d b n f l e h = rw e h

  pub is-keep : (d b n f l : ℕ) → k ≡ command.Keep d b n f l → Wrote (keep_text (clause_of d b n) f l p) xs r ys → Wrote (text_of t k ns bs p) xs r ys
  unfolding text_of
  is-keep d b n f l e h = rw e h

-- ---- the report
pub report_prints : (b xs : List ℕ) (r : ℕ) (ys : List ℕ) → Prints (output 0 (command.Search allowance 4096) [] [] b) xs r ys → Prints (report_of b) xs r ys
unfolding output text_of report_of
report_prints b xs r ys h = h

-- what is printed for the command that asks for the report is the report
pub report_from : (k : Command) (b xs : List ℕ) (r : ℕ) (ys : List ℕ) → k ≡ report_command → Prints (output 0 k [] [] b) xs r ys → Prints (report_of b) xs r ys
unfolding output text_of report_of report_command
report_from k b xs r ys e h = rw e at h
