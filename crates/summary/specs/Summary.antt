-- The summary of a list of words. Assumes nothing.
use Rattle.std.specs.Prelude.{Bool, true, false, cond, not, ◌&&◌, ◌||◌, List, [], ◌∷◌, ℕ, ◌+◌, eqb, ltb, get_or, replicate, Ok, Err}
use Rattle.sets.specs.Lists.{every, any_of, tabulate, below}
use Rattle.sets.specs.Words.{bit}
use Rattle.program.specs.declared.Program.{Program}
use Rattle.program.specs.Values.{is_word, value_in}
use Rattle.program.specs.Refusals.{lowest, refusal_of}
use Rattle.program.specs.Valid.{valid}
use Rattle.program.specs.declared.Refusal.{Refusal}
use Rattle.summary.specs.declared.Summary.{Summary}

-- the value v occurs for the name i in the words
unfoldable pub occurs : ℕ → ℕ → List ℕ → Bool
occurs v i words = any_of (λ w. eqb (value_in w i) v) words

abbrev pub bit_if : Bool → ℕ → ℕ
bit_if true k = k
bit_if false k = 0

-- "gives for each name which of the four values occur": bit v for the value v
unfoldable pub occurring_in : List ℕ → ℕ → ℕ
occurring_in words i = bit_if (occurs 0 i words) 1 + bit_if (occurs 1 i words) 2 + bit_if (occurs 2 i words) 4 + bit_if (occurs 3 i words) 8

-- document 02, U1: "a name is settled when exactly one value occurs in the list": some value does, and any two that do are equal
unfoldable pub is_settled : ℕ → Bool
is_settled shown =
    any_of (λ v. bit shown v) (below 4) && every (λ u. every (λ v. not (bit shown u && bit shown v) || eqb u v) (below 4)) (below 4)

-- the place i: that of an atom that the program does not have shows no value, and so is not settled
unfoldable pub shown_at : ℕ → List ℕ → ℕ → ℕ
shown_at n words i = cond (ltb i n) (occurring_in words i) 0

unfoldable pub settled_at : List ℕ → ℕ → Bool
settled_at shown i = is_settled (get_or shown i 0)

-- "check and summary 9 and 10"
abbrev pub refusals : Program → List ℕ → List (ℕ × Bool)
refusals p words = (9, not (valid p)) ∷ (10, not (every (is_word p.atom_count) words)) ∷ []

unfoldable pub refusal : Program → List ℕ → ℕ
refusal p words = lowest (refusals p words)

-- "A refused summary shows no value for any name and none settled."
unfoldable pub refused_summary : Refusal → Summary
refused_summary r = record { verdict = Err r; occurring = replicate 12 0; settled = replicate 12 false }

unfoldable pub summary_with : ℕ → List ℕ → Summary
summary_with n words =
    let shown = tabulate (shown_at n words) 12 in
    record { verdict = Ok tt; occurring = shown; settled = tabulate (settled_at shown) 12 }

-- the summary's answer
unfoldable pub summary_of : Program → List ℕ → Summary
summary_of p words = cond (eqb (refusal p words) 0) (summary_with p.atom_count words) (refused_summary (refusal_of (refusal p words)))
