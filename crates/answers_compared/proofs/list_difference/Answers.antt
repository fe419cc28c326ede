-- `answers_compared::list_difference` meets its contract: `difference_is` joins the place and what stands there. Assumes nothing.
use Rattle.answers.proofs.Others.{difference_is}
use Rattle.answers_compared.proofs.list_difference.Goals as goal

pub returns : goal.returns
returns c = search difference_is
