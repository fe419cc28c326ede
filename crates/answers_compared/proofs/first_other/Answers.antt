use mathlib.Core.Path.{◌≡◌, ◌∙◌}
use native.Mathlib.Omega.{arith}
use Rattle.answers.proofs.Others.{same_start, same_more, other_found, none_other}
use Rattle.answers_compared.proofs.first_other.Goals as goal

pub loop-k-init : goal.loop-k-init
loop-k-init c = search same_start

pub returns-then-held_at-word_at : goal.returns-then-held_at-word_at
returns-then-held_at-word_at c = search other_found

pub loop-k-preserved : goal.loop-k-preserved
loop-k-preserved c = search same_more

pub returns : goal.returns
returns c =
    let all : 4096 ≡ c.loop-k.k = omega arith in
    all ∙ none_other _ _ c.loop-k.k c.loop-k.invariant c.loop-k-test.false
