use borrow.Author.Rules.{rules}
use native.Mathlib.Omega.{arith}
use Rattle.decimal.proofs.Reading.{parse_done, parse_empty, parse_fits, parse_more, parse_not, parse_start, parse_stop, parse_tens_fit}
use Rattle.sets.proofs.Tests.{via_false}
use Rattle.decimal.proofs.read_number.Goals as goal

pub returns-then-is_empty : goal.returns-then-is_empty
returns-then-is_empty c = search (parse_empty, rules)

pub returns-then-v-gt9 : goal.returns-then-v-gt9
returns-then-v-gt9 c = search (parse_not, rules)

pub loop-i-init : goal.loop-i-init
loop-i-init c = parse_start _ _ _ (search rules) c.digit_of-v.ensures (omega arith) (omega arith)

pub returns-then-not-goes_on : goal.returns-then-not-goes_on
returns-then-not-goes_on c = search (parse_stop, via_false)

pub overflow_mul-v : goal.overflow_mul-v
overflow_mul-v c = search parse_tens_fit

pub overflow_add-v : goal.overflow_add-v
overflow_add-v c = search parse_fits

pub loop-i-preserved : goal.loop-i-preserved
loop-i-preserved c = search parse_more

pub returns : goal.returns
returns c = search parse_done
