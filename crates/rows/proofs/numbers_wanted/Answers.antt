-- `rows::numbers_wanted`: the two sides of its test are the two cases of `wanted`. Assumes nothing.
use Rattle.text_row.proofs.Weighing.{wanted-dated, wanted-undated}
use Rattle.rows.proofs.numbers_wanted.Goals as goal

pub returns-then-dated : goal.returns-then-dated
returns-then-dated c = search wanted-dated

pub returns-else-dated : goal.returns-else-dated
returns-else-dated c = search wanted-undated
