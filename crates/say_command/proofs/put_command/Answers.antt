-- `say_command::put_command` meets its contract: one law for each command. Assumes nothing.
use Rattle.say_words.proofs.Printing.{is-check, is-search, is-fixpoint, is_summary, is-write, is-hold, is-keep}
use Rattle.say_command.proofs.put_command.Goals as goal

pub returns-in-Check : goal.returns-in-Check
returns-in-Check c = search is-check

pub returns-in-Search : goal.returns-in-Search
returns-in-Search c = search is-search

pub returns-in-Fixpoint : goal.returns-in-Fixpoint
returns-in-Fixpoint c = search is-fixpoint

pub returns-in-Summary : goal.returns-in-Summary
returns-in-Summary c = search is_summary

pub returns-in-Write : goal.returns-in-Write
returns-in-Write c = search is-write

pub returns-in-Hold : goal.returns-in-Hold
returns-in-Hold c = search is-hold

pub returns-in-Keep : goal.returns-in-Keep
returns-in-Keep c = search is-keep
