-- `table_fields::value_in` meets its contract: from atom 16 on no bit is left (`no_value`), and below the two bits are shifted down and masked. Assumes nothing.
use Rattle.program.proofs.Places.{no_value, value_masked}
use Rattle.table_fields.proofs.value_in.Goals as goal

pub returns-then-i-ge16 : goal.returns-then-i-ge16
returns-then-i-ge16 c = search no_value

pub returns : goal.returns
returns c = search value_masked
