-- `say_keep::put_kept` meets its contract: the table that is kept is ready to be written. Assumes nothing.
use borrow.Author.Rules.{rules}
use Rattle.program.proofs.Validity.{typed}
use Rattle.holding.proofs.Texts.{kept-ready, kept_wrote}
use Rattle.say_keep.proofs.put_kept.Goals as goal

pub put_written-requires : goal.put_written-requires
put_written-requires c = search (kept-ready, typed, rules)

pub returns : goal.returns
returns c = search kept_wrote
