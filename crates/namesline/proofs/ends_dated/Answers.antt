-- `namesline::ends_dated`: the library compares the line's last bytes with the two words (`dated_part`). Assumes nothing.
use Rattle.namesline.proofs.Items.{dated_part}
use Rattle.namesline.proofs.ends_dated.Goals as goal

pub returns : goal.returns
returns c = dated_part c.args.line.now _ c.ends_with.ensures.value
