-- `say_report::report_command` meets its contract: its numbers are the report's. Assumes nothing.
use borrow.Author.Rules.{rules}
use Rattle.say_words.specs.Commands.{report_command}
use Rattle.say_report.proofs.report_command.Goals as goal

pub returns : goal.returns
unfolding report_command
returns c = search rules
