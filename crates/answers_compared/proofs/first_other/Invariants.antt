-- `answers_compared::first_other` meets its contract: no place below k holds another word than it should. Assumes nothing.
use Rattle.answers.proofs.Others.{Same}
use Rattle.answers_compared.proofs.first_other.Given as goal

abbrev pub invariant-loop-k : goal.invariant-loop-k
invariant-loop-k l = Same l.words l.list l.k
