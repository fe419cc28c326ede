-- The report is the output of a search with its numbers. Assumes nothing.
use Rattle.say_words.proofs.Printing.{report_from}
use Rattle.commands.proofs.report.Goals as goal

pub returns : goal.returns
returns c = search report_from
