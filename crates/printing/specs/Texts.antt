-- What several words share: the text of a refusal, the list that is lent, and the report's limits. Assumes nothing.
use Rattle.std.specs.Prelude.{List, ℕ, min, replicate, Ok, Err}
use Rattle.program.specs.Refusals.{Verdict, number}
use Rattle.wording.specs.Printed.{refused_line}

-- "If refused it prints only one such line": the text t where the verdict is no refusal
unfoldable pub unless_refused : Verdict → List ℕ → List ℕ
unless_refused (Ok u) t = t
unless_refused (Err r) t = refused_line (number r)

-- the list that is lent: "places to 4,096", and more count as 4,096
abbrev pub lent_list : ℕ → List ℕ
lent_list places = replicate (min places 4096) 0

-- "searches with allowance 33,554,431 and a list of 4,096 words"
abbrev pub allowance : ℕ
allowance = 33554431

abbrev pub lent : List ℕ
lent = replicate 4096 0
