-- What the node test leaves as it was: a run under document 01's test of dead nodes, and the same run under the node test. Assumes nothing.
use Rattle.std.specs.Prelude.{◌≡◌, List, ℕ, ◌≤◌, Ok}
use Rattle.program.specs.declared.Outcome.TheVariants.{Spent}
use Rattle.tree.specs.Answer.{SearchAnswer}

-- Two runs of one book, with the same node limit and the same list lent: under document 01's test alone it answered a and left the list l,
-- under the node test it answers b and leaves m. "N counts the smaller tree; a run that is spent under neither rule must list just what it did before."
pub record AsBefore (a b : SearchAnswer) (l m : List ℕ) : Type 0 where
  -- a run that was not spent is not spent: it ends as it did, lists what it did, and counts as many written
  pub ends : (a.outcome ≡ Ok Spent → ⊥) → b.outcome ≡ a.outcome
  pub lists : (a.outcome ≡ Ok Spent → ⊥) → m ≡ l
  pub writes : (a.outcome ≡ Ok Spent → ⊥) → b.written ≡ a.written
  -- spent or not, no more nodes are visited, and no fewer models are written
  pub visits : b.visited ≤ a.visited
  pub no_fewer : a.written ≤ b.written
