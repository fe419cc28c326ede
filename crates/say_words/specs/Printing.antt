-- What every word does on a book, whatever it prints. Assumes nothing.
use Rattle.std.specs.Prelude.{◌≡◌, cond, List, ℕ, ◌≤◌, leb, length, take}
use Rattle.lists.specs.Bytes.{over}
use Rattle.program.specs.declared.Program.{Program}
use Rattle.text.specs.Reading.{read_of}
use Rattle.printing.specs.Ready.{most_bytes}
use Rattle.printing.specs.Texts.{unless_refused}

-- the text b is read, and what f says of its table is printed
unfoldable pub printed : (Program → List ℕ) → List ℕ → List ℕ
printed f b = unless_refused (read_of b).verdict (f (read_of b).program)

-- the text t stands at the front of a slice of at least so many bytes, and r is its length; a shorter slice is left as it was, with r zero.
-- The last two follow from the first two; callers that lend the first r bytes on want them.
pub record Prints (t xs : List ℕ) (r : ℕ) (ys : List ℕ) : Type 0 where
  pub size : r ≡ cond (leb most_bytes (length xs)) (length t) 0
  pub whole : ys ≡ cond (leb most_bytes (length xs)) (over t xs) xs
  pub within : r ≤ length ys
  pub part : r ≡ length (take r ys)
