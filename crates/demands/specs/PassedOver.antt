-- Document 02, U5: "Every other call passes over a held clause." Assumes nothing.
use Rattle.std.specs.Prelude.{◌≡◌, ◌↔◌, true, List, [], ◌∷◌}
use Rattle.sets.specs.Lists.{Each}
use Rattle.program.specs.declared.Program.{Program}
use Rattle.program.specs.Held.{released}
use Rattle.program.specs.Valid.{valid}
use Rattle.demands.specs.Demand1.{Call, read, write, check, summarize, search, fixpoint, hold, keep, release, told}

-- the table that each other call is handed; the reader is handed none, and hold, keep and release are the calls that speak of what is held
unfoldable pub handed : Call → List Program
handed (read b r) = []
handed (write p o r) = p ∷ []
handed (check p d w r) = p ∷ []
handed (summarize p ws r) = p ∷ []
handed (search p d A l r) = p ∷ []
handed (fixpoint p d l w v r) = p ∷ []
handed (hold p c f l r) = []
handed (keep p r) = []
handed (release p r) = []

-- the same call, with the same answer and the same slices, of that table with nothing held
unfoldable pub without : Call → Call
without (read b r) = read b r
without (write p o r) = write (released p) o r
without (check p d w r) = check (released p) d w r
without (summarize p ws r) = summarize (released p) ws r
without (search p d A l r) = search (released p) d A l r
without (fixpoint p d l w v r) = fixpoint (released p) d l w v r
without (hold p c f l r) = hold p c f l r
without (keep p r) = keep p r
without (release p r) = release p r

-- on a valid table each other call answers, and leaves what it was lent, as on that table with nothing held: what meets the one contract meets the other
abbrev pub PassedOver : Type 0
PassedOver = (c : Call) → Each (λ (p : Program). valid p ≡ true) (handed c) → (told c).promised ↔ (told (without c)).promised
