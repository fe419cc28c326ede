-- `form::too_many_lines` counts bytes 10, of which each line has one. Assumes nothing.
use Rattle.text.proofs.Tests.{many_lines_is}
use Rattle.form.proofs.too_many_lines.Goals as goal

pub returns : goal.returns
returns c = search many_lines_is
