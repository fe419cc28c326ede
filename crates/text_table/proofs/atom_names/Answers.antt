-- `text_table::atom_names` puts the items before the names' end, which are the names, into a table of zeros. Assumes nothing.
use borrow.Author.Rules.{rules}
use Rattle.namesline.proofs.Items.{front_long}
use Rattle.text_table.proofs.Answers.{has_line, each_named, few_named, names_put}
use Rattle.text_table.proofs.atom_names.Goals as goal

pub names_end-e-requires : goal.names_end-e-requires
names_end-e-requires c = search has_line

pub slice_bounds-put_names-end-2 : goal.slice_bounds-put_names-end-2
slice_bounds-put_names-end-2 c = search (front_long, rules)

pub put_names-requires : goal.put_names-requires
put_names-requires c = search (each_named, few_named, rules)

pub returns : goal.returns
returns c = search names_put
