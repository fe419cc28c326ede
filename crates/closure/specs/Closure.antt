-- What a member gives where it is quiet, and the least set that holds some members and is closed under it. Assumes nothing.
use Rattle.std.specs.Prelude.{ℕ, ◌+◌, ◌≤◌, ◌<◌, length, Bool, not, cond, ◌&&◌, List, map, ◌≡◌}
use Rattle.std.specs.Int.Bits.{bit_or}
use Rattle.sets.specs.Lists.{◌∈◌, Rising, any_of}
use Rattle.sets.specs.Words.{inside, meets, put}
use Rattle.literals.specs.Literals.{literals}
use Rattle.rising.specs.Growing.{held, Runs}
use Rattle.heads.specs.Heads.{offered_by, without}
use Rattle.operator.specs.Operator.{WordRule, choices, fired}

-- the head literals of the clauses whose body lies in i
unfoldable pub offers : ℕ → List WordRule → ℕ
offers i Q = offered_by (fired i Q)

-- i with all that it is offered
unfoldable pub full : ℕ → List WordRule → ℕ
full i Q = bit_or i (offers i Q)

-- the clause fires at f, but it does not fire at i or its head meets i nowhere
abbrev pub stirs : ℕ → ℕ → WordRule → Bool
stirs i f c = inside c.body f && not (inside c.body i && meets c.head i)

-- i satisfies every clause, and no clause fires at the full set that does not fire at i
unfoldable pub quiet : ℕ → List WordRule → Bool
quiet i Q = not (any_of (stirs i (full i Q)) Q)

-- i with each literal of a word, in turn
unfoldable pub one_more : ℕ → ℕ → List ℕ
one_more i w = map (λ t. put t i) (literals w)

-- a quiet member gives itself with each literal that it is offered and lacks, in turn; any other gives all its choices
unfoldable pub gives : ℕ → List WordRule → List ℕ
gives i Q = cond (quiet i Q) (one_more i (without (offers i Q) i)) (choices i Q i)

-- a list that has all that its own members give
abbrev pub Closed : List WordRule → List ℕ → Type 0
Closed Q L = (i x : ℕ) → i ∈ L → x ∈ gives i Q → x ∈ L

-- R is the least set that holds S and is closed
pub record LeastClosed (Q : List WordRule) (S R : List ℕ) : Type 0 where
  pub rises : Rising R
  pub holds : (x : ℕ) → x ∈ S → x ∈ R
  pub closed : Closed Q R
  pub least : (L : List ℕ) → ((x : ℕ) → x ∈ S → x ∈ L) → Closed Q L → (x : ℕ) → x ∈ R → x ∈ L

-- r and the slice at exit, where the least closed set that holds S was to be formed in so many places, in two runs: the number of its members,
-- or one more than there are places where every closed set that holds S has more members than that.
-- The slice keeps its length. Free are the words behind the members, and all words where there was no room: they may be any.
pub record Closes (Q : List WordRule) (S : List ℕ) (room : ℕ) (out : List ℕ) (r : ℕ) : Type 0 where
  pub most : r ≤ room + 1
  pub least : r ≤ room → LeastClosed Q S (held r out)
  pub runs : r ≤ room → Runs r out
  pub over : room < r → (L : List ℕ) → Rising L → ((x : ℕ) → x ∈ S → x ∈ L) → Closed Q L → room < length L
  pub long : length out ≡ room
