-- `printing::put_models` meets its contract: the listing of a table that was read has room, and all the words are listed. Assumes nothing.
use borrow.Author.Rules.{rules}
use Rattle.printing.proofs.Texts.{models_fit, models_wrote}
use Rattle.printing.proofs.put_models.Goals as goal

pub put_listing-requires : goal.put_listing-requires
put_listing-requires c = search (models_fit, rules)

pub returns : goal.returns
returns c = search models_wrote
