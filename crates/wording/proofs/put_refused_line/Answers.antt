-- `wording::put_refused_line`: the line is a word and a number, the word being "refused". Assumes nothing.
use borrow.Author.Rules.{rules}
use Rattle.wording.specs.Printed.{refused_word, refused_line}
use Rattle.wording.proofs.put_refused_line.Goals as goal

pub put_numbered_line-requires : goal.put_numbered_line-requires
unfolding refused_line refused_word
put_numbered_line-requires c = search rules

pub returns : goal.returns
unfolding refused_line refused_word
returns c = search rules
