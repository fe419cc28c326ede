-- What the words print, seen from outside. Assumes nothing.
use mathlib.Core.Path.{◌≡◌, refl, ap, ◌∙◌}
use mathlib.Core.List.{List, ◌++◌}
use Prim.Native.Nat.{ℕ}
use Rattle.program.specs.Clauses.{clause_of}
use Rattle.text.specs.Lines.{values_line}
use Rattle.text.specs.Render.{row_numbers}
use Rattle.text.specs.Refusals.{refusal}
use Rattle.text.specs.Reading.{read_of, IsAccepted}
use Rattle.text.proofs.RoundTrip.{refused, written_back, read_sized}
use Rattle.held.specs.Holding.{held_as, hold_refusal}
use Rattle.holding.proofs.Texts.{keep-last_line}
use Rattle.wording.specs.Printed.{refused_line}
use Rattle.printing.specs.Texts.{unless_refused, allowance}
use Rattle.say_words.specs.declared.Command.{Command}
use Rattle.say_words.specs.declared.Command.TheVariants.{Search, Write, Keep}
use Rattle.say_words.specs.Printing.{printed}
use Rattle.say_words.specs.Commands.{text_of, output, report_of}

-- A search on day 0 with the report's numbers prints the report.
pub search_is_report : (ns bs b : List ℕ) → output 0 (Search allowance 4096) ns bs b ≡ report_of b
unfolding output text_of report_of
search_is_report ns bs b = refl

-- A book that is taken is written back byte for byte.
pub write_is_book : (d : ℕ) (ns bs b : List ℕ) → IsAccepted b → output d Write ns bs b ≡ b
unfolding output text_of printed unless_refused
write_is_book d ns bs b a = rw a (written_back b a)

-- Where hold takes the clause, `keep` prints the book byte for byte, and the clause as its last line.
pub keep_is_book : (d h b n f l : ℕ) (ns bs t : List ℕ) → IsAccepted t → hold_refusal (read_of t).program (clause_of h b n) f l ≡ 0
    → output d (Keep h b n f l) ns bs t
    ≡ t ++ values_line (row_numbers (read_of t).program.dated (read_of t).program.atom_count (held_as (read_of t).program (clause_of h b n) f l))
unfolding output text_of printed unless_refused
keep_is_book d h b n f l ns bs t a z =
    let p = (read_of t).program in
    let c = clause_of h b n in
    rw a (keep-last_line p (read_sized t a) c f l z ∙ ap (λ (x : List ℕ). x ++ values_line (row_numbers p.dated p.atom_count (held_as p c f l))) (written_back t a))

-- Of a refused book every word prints the one line of its refusal.
pub prints_refusal : (d : ℕ) (k : Command) (ns bs b : List ℕ) → (refusal b ≡ 0 → ⊥) → output d k ns bs b ≡ refused_line (refusal b)
unfolding output printed unless_refused
prints_refusal d k ns bs b n = rw (refused b n).0 (ap refused_line (refused b n).1)
