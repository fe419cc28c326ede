-- The answer of the fixpoint for every table, every day, every list and every two working slices. Assumes nothing.
use Rattle.std.specs.Prelude.{◌≡◌, Bool, cond, not, List, [], ◌∷◌, ℕ, ◌+◌, min, eqb, leb, ltb, length, Ok, Err}
use Rattle.program.specs.declared.Program.{Program}
use Rattle.program.specs.Clauses.{Clause}
use Rattle.program.specs.Days.{clauses}
use Rattle.program.specs.Valid.{valid}
use Rattle.program.specs.Refusals.{lowest, refusal_of}
use Rattle.operator.specs.Operator.{WordRule}
use Rattle.stages.specs.Run.{crowded}
use Rattle.transform.specs.Transform.{kappa_from}
use Rattle.vocabulary.specs.Vocabulary.{literals_of, vocabulary}
use Rattle.program.specs.declared.Outcome.TheVariants.{Complete, Full}
use Rattle.program.specs.declared.Refusal.{Refusal}
use Rattle.program.specs.declared.Refusal.TheVariants.{TooLittleRoom}
use Rattle.fix_answer.specs.declared.FixpointAnswerWith.{FixpointAnswerWith}
use Rattle.transform.specs.Listing.{listing}
use Rattle.parts.specs.Overwriting.{overwrite}

-- the fixpoint's answer has a refusal where the call refuses; `FixpointAnswerWith R` has an R there
abbrev pub FixpointAnswer : Type 0
FixpointAnswer = FixpointAnswerWith Refusal

-- "Outcome: complete, or full if the list is too short for them all; it then holds the lowest ones, as many as fit."
unfoldable pub listed : ℕ → ℕ → FixpointAnswer
listed count places = record { outcome = Ok (cond (leb count places) Complete Full); written = min count places }

-- "A refusal carries its number .. and counts are 0."
unfoldable pub refused : {R : Type 0} → R → FixpointAnswerWith R
refused r = record { outcome = Err r; written = 0 }

-- ---- over a positive program of words whose m lowest members are the literals
unfoldable pub run_answer : ℕ → List WordRule → ℕ → ℕ → FixpointAnswer
run_answer m Q room places = cond (crowded Q room) (refused TooLittleRoom) (listed (length (listing m Q)) places)

unfoldable pub run_exit : ℕ → List WordRule → ℕ → List ℕ → List ℕ
run_exit m Q room xs = cond (crowded Q room) xs (overwrite xs (listing m Q))

pub record Answered (m : ℕ) (Q : List WordRule) (room : ℕ) (xs out : List ℕ) (r : FixpointAnswer) : Type 0 where
  pub answer : r ≡ run_answer m Q room (length xs)
  pub exit : out ≡ run_exit m Q room xs

-- the transform of clauses over m literals, which stand at 0 to m - 1, K of each m higher, stand-ins from 2m on
abbrev pub kappa : ℕ → List Clause → List WordRule
kappa m C = kappa_from m (m + m) C

-- ---- the fixpoint of a table on a day
-- document 02, U13: "Check, search, fixpoint and every later call that weighs models take a day": the transform is that of the day's clauses
unfoldable pub transform_of : Program → ℕ → List WordRule
transform_of p d = kappa (literals_of p) (clauses p d)

-- the words that it lists, were there room and places for all
unfoldable pub found : Program → ℕ → List ℕ
found p d = listing (literals_of p) (transform_of p d)

-- "Two working slices .. are lent; their room is the shorter length."
abbrev pub room_of : List ℕ → List ℕ → ℕ
room_of w v = min (length w) (length v)

-- "the fixpoint [meets] 9, 11, 12"
abbrev pub refusals : Program → ℕ → ℕ → List (ℕ × Bool)
refusals p d room = (9, not (valid p)) ∷ (11, ltb 64 (vocabulary p d)) ∷ (12, crowded (transform_of p d) room) ∷ []

unfoldable pub refusal : Program → ℕ → ℕ → ℕ
refusal p d room = lowest (refusals p d room)

-- the answer, and the lent list at exit
unfoldable pub answer_of : Program → ℕ → List ℕ → List ℕ → List ℕ → FixpointAnswer
answer_of p d l w v = cond (eqb (refusal p d (room_of w v)) 0) (listed (length (found p d)) (length l)) (refused (refusal_of (refusal p d (room_of w v))))

unfoldable pub exit_of : Program → ℕ → List ℕ → List ℕ → List ℕ → List ℕ
exit_of p d l w v = cond (eqb (refusal p d (room_of w v)) 0) (overwrite l (found p d)) l

-- the contract of the fixpoint: the answer and the list at exit outright; the words left in the working slices are free, their lengths stay
pub record Fixes (p : Program) (d : ℕ) (l₀ w₀ v₀ : List ℕ) (a : FixpointAnswer) (l w v : List ℕ) : Type 0 where
  pub says : a ≡ answer_of p d l₀ w₀ v₀
  pub lists : l ≡ exit_of p d l₀ w₀ v₀
  pub first_length : length w ≡ length w₀
  pub second_length : length v ≡ length v₀
