-- `checker::check` meets its contract: `no_table` and `no_word` where it refuses, else `checked`, from what the check on the day ensures. Assumes nothing.
use Rattle.sets.proofs.Tests.{via_true}
use Rattle.stable.proofs.Answers.{checked, no_table, no_word}
use Rattle.checker.proofs.check.Goals as goal

pub returns-then-not-is_valid : goal.returns-then-not-is_valid
returns-then-not-is_valid c = search no_table

pub returns-then-not-is_word : goal.returns-then-not-is_word
returns-then-not-is_word c = search no_word

pub check_day-requires : goal.check_day-requires
check_day-requires c = search via_true

pub returns : goal.returns
returns c = search checked
