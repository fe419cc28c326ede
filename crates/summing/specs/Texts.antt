-- What `summary` says of a table, as a definition of the table and of the day; `write` says the text of the table, `render`. Assumes nothing.
use Rattle.std.specs.Prelude.{List, ◌++◌, ℕ}
use Rattle.program.specs.declared.Program.{Program}
use Rattle.program.specs.Names.{names_of}
use Rattle.text.specs.Lines.{names_line}
use Rattle.summarylines.specs.Summary.{four_lines, flags_line}
use Rattle.summary.specs.declared.Summary.{Summary}
use Rattle.summary.specs.Summary.{summary_of}
use Rattle.tree.specs.Answer as searched
use Rattle.printing.specs.Texts.{unless_refused, allowance, lent}

-- ---- summary: "the names line, four lines of 0 and 1 (which names take value 0, 1, 2, 3 in some model), a line of 0 and 1 (settled)"
unfoldable pub summary_lines : Program → Summary → List ℕ
summary_lines p s = names_line (names_of p) ++ (four_lines s.occurring p.atom_count ++ flags_line s.settled p.atom_count)

-- of the words that are listed
unfoldable pub summarized_text : List ℕ → Program → List ℕ
summarized_text words p =
    let s = summary_of p words in
    unless_refused s.verdict (summary_lines p s)

-- "after a search as the report's (limit 33,554,431, list of 4,096)"
unfoldable pub summary_text : ℕ → Program → List ℕ
summary_text d p = summarized_text (searched.listed p d allowance lent) p
