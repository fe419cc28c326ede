-- What a summary says, over values. Assumes nothing.
use Rattle.program.specs.Refusals.{refused_by}
use Rattle.std.specs.Prelude.{◌≡◌, true, false, ◌↔◌, List, [], ℕ, ◌≤◌, ◌<◌, get_or, replicate, Ok}
use Rattle.sets.specs.Lists.{Some}
use Rattle.sets.specs.Words.{bit}
use Rattle.program.specs.declared.Program.{Program}
use Rattle.program.specs.Values.{value_in}
use Rattle.summary.specs.declared.Summary.{Summary}
use Rattle.summary.specs.Summary.{refusal}

-- the value v occurs for the name i: some word of the list gives it
unfoldable pub Occurs : ℕ → ℕ → List ℕ → Type 0
Occurs v i words = Some (λ w. value_in w i ≡ v) words

-- "exactly one value occurs": some value does, and any two that do are equal
unfoldable pub ExactlyOne : ℕ → List ℕ → Type 0
ExactlyOne i words = ((v : ℕ) × Occurs v i words) × ((u v : ℕ) → Occurs u i words → Occurs v i words → u ≡ v)

-- what the summary s of the words says
pub record Means (p : Program) (words : List ℕ) (s : Summary) : Type 0 where
  -- "A refusal carries its number"
  pub accepted : refusal p words ≡ 0 → s.verdict ≡ Ok tt
  pub number : (refusal p words ≡ 0 → ⊥) → refused_by s.verdict ≡ refusal p words
  -- "gives for each name which of the four values occur": bit v is set exactly where the value v does
  pub shows : refusal p words ≡ 0 → (i : ℕ) → i < p.atom_count → (v : ℕ) → (bit (get_or s.occurring i 0) v ≡ true) ↔ Occurs v i words
  -- document 02, U1: "a name is settled when exactly one value occurs in the list"
  pub settles : refusal p words ≡ 0 → (i : ℕ) → i < p.atom_count → (get_or s.settled i false ≡ true) ↔ ExactlyOne i words
  -- document 02, U1: "With an empty list no name is settled."
  pub empty : words ≡ [] → (i : ℕ) → get_or s.settled i false ≡ false
  -- a name that the program does not have shows no value and is not settled
  pub no_name : (i : ℕ) → p.atom_count ≤ i → (get_or s.occurring i 0 ≡ 0) × (get_or s.settled i false ≡ false)
  -- "A refused summary shows no value for any name and none settled."
  pub refused : (refusal p words ≡ 0 → ⊥) → (s.occurring ≡ replicate 12 0) × (s.settled ≡ replicate 12 false)
