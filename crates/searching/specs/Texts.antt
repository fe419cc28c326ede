-- What `search` says of a table, as a definition of the table, of the day and of the numbers behind the word. Assumes nothing.
use Rattle.std.specs.Prelude.{List, ◌++◌, ℕ}
use Rattle.program.specs.declared.Program.{Program}
use Rattle.wording.specs.Printed.{last_line}
use Rattle.listings.specs.Listing.{listing}
use Rattle.tree.specs.Answer as searched

-- ---- search LIMIT PLACES: "the names line, a line of values for each model, then outcome, models written, nodes visited"
-- of a search on the day d with the allowance A and the lent list l, which never refuses a table that was read
unfoldable pub search_text : ℕ → ℕ → List ℕ → Program → List ℕ
search_text d A l p =
    let a = searched.answer_of p d A l in
    listing p (searched.listed p d A l) ++ last_line a.outcome a.written a.visited
