-- What each word of the command line prints, as a definition of the book's bytes, of the day and of the numbers behind the word. Assumes nothing.
use Rattle.std.specs.Prelude.{List, ℕ}
use Rattle.program.specs.declared.Program.{Program}
use Rattle.program.specs.Clauses.{clause_of}
use Rattle.text.specs.Render.{render}
use Rattle.printing.specs.Texts.{lent_list, allowance, lent}
use Rattle.checking.specs.Texts.{check_text}
use Rattle.searching.specs.Texts.{search_text}
use Rattle.say_fixed.specs.Texts.{work_slice, fixpoint_text}
use Rattle.summing.specs.Texts.{summary_text}
use Rattle.holding.specs.Texts.{hold_text, keep_text}
use Rattle.say_words.specs.declared.Command.{Command}
use Rattle.say_words.specs.declared.Command.TheVariants as command
use Rattle.say_words.specs.Printing.{printed}

-- what a word prints of a table on the day d; of `write`, "the book written back", it is the text of the table.
-- The list ns of numbers and the list bs of bytes are for words that take many: none of these does.
unfoldable pub text_of : ℕ → Command → List ℕ → List ℕ → Program → List ℕ
text_of d (command.Check w) ns bs p = check_text d w p
text_of d (command.Search A places) ns bs p = search_text d A (lent_list places) p
text_of d (command.Fixpoint places capacity) ns bs p = fixpoint_text d (lent_list places) (work_slice capacity) (work_slice capacity) p
text_of d command.Summary ns bs p = summary_text d p
text_of d command.Write ns bs p = render p
text_of d (command.Hold h b n f l) ns bs p = hold_text (clause_of h b n) f l p
text_of d (command.Keep h b n f l) ns bs p = keep_text (clause_of h b n) f l p

-- what a word prints on the text b
unfoldable pub output : ℕ → Command → List ℕ → List ℕ → List ℕ → List ℕ
output d k ns bs b = printed (text_of d k ns bs) b

-- ---- the report
-- "after a search as the report's (limit 33,554,431, list of 4,096)"
unfoldable pub report_command : Command
report_command = command.Search allowance 4096

-- the report on the text b; document 02, U13: "The report takes day 0."
-- "prints, in lines formed as a book's, the names line, a line of values 0 to 3 for each model, and a last line"
unfoldable pub report_of : List ℕ → List ℕ
report_of b = printed (search_text 0 allowance lent) b
