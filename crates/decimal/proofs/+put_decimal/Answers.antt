use borrow.Author.Rules.{rules}
use Rattle.decimal.proofs.Reading.{put_some, put_one, put_behind, put_fits, put_more, tens_room}
use Rattle.decimal.proofs.+put_decimal.Goals as goal

pub bounds-out-0 : goal.bounds-out-0
bounds-out-0 t c = search put_some

pub returns-then-v-lt10 : goal.returns-then-v-lt10
returns-then-v-lt10 t c = search put_one

pub put_decimal-n-requires : goal.put_decimal-n-requires
put_decimal-n-requires t c = (search rules, search tens_room)

pub bounds-out-n : goal.bounds-out-n
bounds-out-n t c = search put_behind

pub overflow_add-result : goal.overflow_add-result
overflow_add-result t c = search (put_fits, rules)

pub returns : goal.returns
returns t c = search put_more
