-- `form::opening_refusal` has a law for each way out, `is1` to `is4`, and `is5_6` where the names line decides. Assumes nothing.
use Rattle.sets.proofs.Tests.{via}
use Rattle.text.proofs.Tests.{plain_line_lem}
use Rattle.form.proofs.Opening.{is1, is2, is3, is4, is5_6}
use Rattle.form.proofs.opening_refusal.Goals as goal

pub returns-then-wrong_size : goal.returns-then-wrong_size
returns-then-wrong_size c = search (is1, via)

pub is_unended-requires : goal.is_unended-requires
is_unended-requires c = search via

pub returns-then-is_unended : goal.returns-then-is_unended
returns-then-is_unended c = search (is2, via)

pub returns-then-has_foreign : goal.returns-then-has_foreign
returns-then-has_foreign c = search (is3, via)

pub returns-then-too_many_lines : goal.returns-then-too_many_lines
returns-then-too_many_lines c = search (is4, via)

pub names_refusal-requires : goal.names_refusal-requires
names_refusal-requires c = search (plain_line_lem, via)

pub returns : goal.returns
returns c = search (is5_6, via)
